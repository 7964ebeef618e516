-- What a configuration spells, and the first fault in its names and numbers.
pub mod Draft
pub mod References
pub mod Limits
pub mod Drafted
-- Inside this crate: what may stand in a list of names, names that were seen, values that may be
-- there, sums that stop.
pub mod Roles
pub mod Seen
pub mod Viewed
