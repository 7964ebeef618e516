-- What a pipeline's names stand for, what its parts make of a tree, and what a leg gets and leaves.
pub mod Parts
pub mod Course
pub mod Legs
-- What exporters get of the lines of an input, what is noted of them, and what is counted.
pub mod Exports
pub mod Notes
pub mod Totals
-- Totals added up.
pub mod Sums
-- What the laws say.
pub mod Facts
-- A leg step by step.
pub mod Steps
-- How many steps a turn does, and histories of turns.
pub mod Bursts
pub mod Histories
