-- What the takers of a tree hold.
pub mod Handing
