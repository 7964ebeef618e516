-- What a tree grouped by attributes is stands in `pdata_tree`.
pub use Rattle.pdata_tree.specs.Grouping
-- Inside this crate: items gathered by their keys, and where the groups of a key stand.
pub mod Gathering
pub mod Indexing
pub mod Codes
pub mod Placing
