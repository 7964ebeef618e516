-- What a shelf holds, and how its calls change it.
pub mod Places
pub mod Lending
-- Inside the crate: its slots.
pub mod Slots
