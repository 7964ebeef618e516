-- What the functions on times answer, row by row; formats; the parts of a moment.
pub mod Times
pub mod Formats
pub mod Moments
