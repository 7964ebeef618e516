mod Pieces
mod Spelled
mod Joins
mod Bridge
pub mod Crossing
