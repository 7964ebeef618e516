-- What the editors of maps make of a target, row by row.
pub mod Edits
