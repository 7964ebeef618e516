-- The legs of a configuration, or its first fault.
pub mod Exits
pub mod Legs
pub mod Cycles
pub mod Built
pub mod Conf
pub mod Checks
-- Inside this crate: legs that are added to those found so far, and truths about pipelines.
pub mod Found
pub mod Growing
pub mod Tables
pub mod Reach
