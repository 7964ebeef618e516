-- What is written and counted for lines of an input.
pub mod Bundles
-- Inside this crate: what a run knows of a configuration.
pub mod Plans
pub mod Planning
pub mod Left
-- Files, and what is written to them.
pub mod Files
pub mod Writing
