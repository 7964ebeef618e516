pub mod Viable
pub mod Fronts
pub mod Predictive
pub mod Longest
pub mod Machine
pub mod Whole
pub mod Factoring
