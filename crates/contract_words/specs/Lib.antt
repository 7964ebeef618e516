-- What contracts of all crates say: causes of faults, answers, what a disk holds, lines of an
-- input.
pub mod Causes
pub mod Gives
pub mod Fronts
pub mod Held
pub mod InputLines
-- Grammars by cases, with their viable prefixes, and the theory of those that one byte decides.
pub mod Grammar
pub mod Rows
