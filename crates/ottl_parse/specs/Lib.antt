-- How statements and conditions are parsed.
pub mod Place
pub mod Reading
pub mod Checks
pub mod Parsing
-- How they are printed.
pub mod Printing
-- The grammar, apart from how tokens are read.
pub mod Grammar
