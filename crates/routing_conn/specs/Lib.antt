-- What a routing connector gives.
pub mod Meaning
-- What its calls answer, beside the meaning.
pub mod Answers
-- What a call on a forest gives and gives up, and the nodes that it makes.
pub mod Given
pub mod Bills
-- Inside this crate: rows on the tree of a root.
pub mod Rows
