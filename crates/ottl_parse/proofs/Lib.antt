pub mod Turns
pub mod Checks
pub mod Printed
pub mod Contents
pub mod Spelled
