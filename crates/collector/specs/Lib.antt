-- The table of commands, what they mean, and what stands at each end of a run.
pub mod Words
pub mod Commands
pub mod Devices
pub mod Meaning
pub mod Ends
pub mod Payload
pub mod Pass
pub mod Check
pub mod Configured
-- Inside a run, from line to line.
pub mod Parsed
pub mod Judged
pub mod Between
pub mod Lines
pub mod RunLines
pub mod Source
