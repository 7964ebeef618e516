-- Values of JSON that can be written and read again.
pub mod Writable
