pub mod Order
pub mod Entries
pub mod Going
pub mod Ends
