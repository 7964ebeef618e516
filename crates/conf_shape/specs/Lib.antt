-- What stands where in a configuration, and its first fault: what a reader must believe.
pub mod Table
pub mod ComponentName
pub mod Pointer
pub mod Kinds
pub mod Fault
pub mod Shape
pub mod Shaped
-- The same without an order of faults.
pub mod HasShape
-- Inside this crate: places on the way, and the table as the code has it.
pub mod Path
pub mod Rows
