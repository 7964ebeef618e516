pub mod Reaching
pub mod Growing
pub mod Short
pub mod Deeper
pub mod Parts
