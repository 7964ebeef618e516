-- What laws say of statements and conditions that are parsed.
pub mod Whole
