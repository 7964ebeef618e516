-- What the functions answer, row by row, and what a pattern's text answers.
pub mod Texts
pub mod Kinds
pub mod Patterns
pub mod Matching
-- Inside this crate: texts as they are joined, and what searches for a pattern.
pub mod Joining
pub mod Searching
-- What values are, arguments of a kind and the text of a value, for those who cite functions.
pub use Rattle.pdata_value.specs.Value
pub use Rattle.pdata_value.specs.Answers
pub use Rattle.pdata_value.specs.Wanted
pub use Rattle.pdata_value.specs.Shown
