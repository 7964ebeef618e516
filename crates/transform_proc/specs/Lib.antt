-- What the processor makes of a tree.
pub mod Meaning
-- The same step by step.
pub mod Steps
-- What statements leave of the targets.
pub mod Targets
-- Where a run on a root of a forest stands, and what calls on it leave.
pub mod Progress
-- Inside this crate: groups that are lent.
pub mod Turns
