-- What an error does.
pub mod Account
-- Settings, or the first fault of a configuration.
pub mod Fault
pub mod Planning
pub mod Plans
pub mod Settings
pub mod Reads
