pub mod Stops
pub mod Flags
pub mod Stepping
pub mod Inside
mod Rooted
mod Turns
