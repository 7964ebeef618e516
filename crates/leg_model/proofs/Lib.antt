-- What is written, noted and counted grows by lines.
pub mod Growing
-- What legs get, and what is handed on.
pub mod Handing
-- The number of log records of trees: under distinct keys, of parts and groups, behind processors.
mod Distinct
pub mod Records
mod Made
-- Counts and notes of a leg.
mod Balances
mod Unrouted
mod Accounts
mod Routes
mod Noting
-- What exporters get.
mod Exporting
-- Steps of a leg.
mod Stepping
mod Ending
-- Turns and histories.
mod Lengths
mod Turning
mod Filtering
mod Counting
mod Stating
mod Replaying
