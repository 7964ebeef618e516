-- What the processor keeps of a tree.
pub mod Meaning
-- The same step by step.
pub mod Steps
-- Where a run on a root of a forest stands, and what calls on it leave.
pub mod Progress
