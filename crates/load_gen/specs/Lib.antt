-- The numbers that are drawn, and the payloads that are made of them.
pub mod Draws
pub mod Payloads
