-- What is kept and how log records are grouped stands in `pdata_tree`, in `Selecting` and
-- `Grouping`.
pub use Rattle.pdata_tree.specs.Selecting
pub use Rattle.pdata_tree.specs.Grouping
