-- The functions and what they want, the paths of each context, the names of severities.
pub mod Functions
pub mod Paths
pub mod Severities
-- What planning answers, and what statements and conditions are planned as.
pub mod Answers
pub mod Planning
-- Faults as they are printed.
pub mod Faults
