pub mod Turns
mod Going
mod Leaving
mod Moving
mod Scenes
mod Spots
pub mod Steps
pub mod Targets
