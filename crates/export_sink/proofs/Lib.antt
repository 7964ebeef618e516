pub mod Bundles
pub mod Writing
