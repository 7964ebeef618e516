-- What runs print.
pub mod Check
pub mod Fault
pub mod Said
