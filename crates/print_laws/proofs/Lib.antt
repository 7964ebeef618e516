-- Lemmas on printed literals.
pub mod Lexed
pub mod Literals
