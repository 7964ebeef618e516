-- Trees and their nodes, places in them, and paths: what is read and written at them.
pub mod Tree
pub mod Places
pub mod Paths
pub mod Walk
pub mod Ids
pub mod Fields
pub mod Access
-- Parts of a tree, groups of its log records, and what statements and components ask of a tree.
pub mod Selecting
pub mod Grouping
pub mod Operations
-- What a call that writes leaves, and the nodes that it makes.
pub mod Changes
pub mod Scenes
-- What is looked at.
pub mod Seen
-- What values and pairs are, for those who cite trees.
pub use Rattle.pdata_value.specs.Value
pub use Rattle.pdata_value.specs.Pairs
pub use Rattle.pdata_value.specs.Measure
pub use Rattle.pdata_value.specs.Same
pub use Rattle.pdata_value.specs.Numeral
pub use Rattle.pdata_value.specs.Errors
