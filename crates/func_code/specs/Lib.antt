-- What the functions on codes answer, row by row, and which value a value of JSON is.
pub mod Codes
pub mod Json
-- Inside this crate: errors of what is used.
pub mod Outside
