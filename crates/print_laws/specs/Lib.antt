-- What is read from printed literals.
pub mod Literals
