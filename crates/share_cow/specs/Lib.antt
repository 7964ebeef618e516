-- What a forest holds, the tree that a root stands for, and the nodes that trees share.
pub mod Store
pub mod Levels
pub mod Kept
pub mod Views
pub mod Emptied
pub mod Scene
pub mod Keeping
-- How a shared node is made anew.
pub mod Copies
-- Lists of roots.
pub mod RootLists
-- Inside the crate: how nodes go and come.
pub mod Lowering
pub mod Planting
pub mod Parting
pub mod Owning
