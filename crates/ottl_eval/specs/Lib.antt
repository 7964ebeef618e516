-- What expressions are worth, and what statements do.
pub mod Stages
pub mod Comparing
pub mod Arithmetic
pub mod Converting
pub mod Editing
pub mod Values
pub mod Statements
-- Another kind of tree, for a law.
pub mod OneValue
