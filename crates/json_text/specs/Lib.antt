-- What a text of JSON is read as, and how a value is written.
pub mod Place
pub mod Reading
pub mod Writing
pub mod Grammar
pub mod Spelling
pub mod Placed
pub mod Kinds
pub mod Members
-- Inside this crate: what stands between two places, and what ends a run of plain bytes.
pub mod Spelled
pub mod Marks
