mod Alike
mod Codes
mod Gathered
mod Indexed
mod Placed
