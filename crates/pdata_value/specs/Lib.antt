-- What values are, how lists of pairs serve as maps, and what spells a double.
pub mod Value
pub mod Pairs
pub mod Measure
pub mod Doubles
pub mod Same
pub mod Numeral
pub mod Errors
pub mod Answers
pub mod Wanted
pub mod Shown
-- Inside this crate: where a text is held, how a numeral is read, where a pair stands, and indexes
-- of keys.
pub mod Held
pub mod Scan
pub mod Places
pub mod Index
