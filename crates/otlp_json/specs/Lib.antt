-- The payload that a line is, and the one written form of a payload.
pub mod Payload
pub mod Trees
pub mod Values
pub mod Objects
pub mod Fields
pub mod Limits
pub mod Reads
pub mod Line
pub mod Names
pub mod WellFormed
-- What trees and JSON are, for those who cite payloads.
pub use Rattle.pdata_tree.specs.Tree
pub use Rattle.json_text.specs.Reading
-- Inside this crate: numbers that fit, and members as they are written.
pub mod Digits
pub mod Adding
-- Inside this crate: reading straight from the text.
pub mod Direct
