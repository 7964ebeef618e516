-- What an error does to conditions in a list, and how calls end.
pub mod Judging
pub mod Ends
-- What a step comes to.
pub mod Stepping
-- Inside this crate: the targets in one resource.
pub mod OneResource
