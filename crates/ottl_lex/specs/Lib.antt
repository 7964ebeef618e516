-- Tokens of a text, and their contents: what a reader must believe.
pub mod Tokens
pub mod Quoted
pub mod Numbers
pub mod Codes
pub mod Names
-- The token table, apart from how tokens are read.
pub mod Table
pub mod Faults
-- Inside the crate.
pub mod Escapes
