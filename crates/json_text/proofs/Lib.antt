pub mod Scans
pub mod Masks
pub mod Numerals
pub mod Turns
pub mod Values
pub mod Written
pub mod Runs
pub mod Parts
pub mod NumberParts
pub mod TextParts
pub mod ValueParts
pub mod Fitting
pub mod Law
pub mod Numbers
pub mod Layers
pub mod TextBack
pub mod NumberBack
pub mod ValueBack
pub mod RoundTrip
pub mod Utf8
pub mod Deeper
pub mod KindLemmas
pub mod NullPlaces
pub mod CutObjects
mod TextSpelled
mod ValueSpelled
mod TextRead
mod ValueRead
