pub mod State
pub mod Replay
pub mod Counts
pub mod Memory
pub mod Since
pub mod Calls
pub use Rattle.tree_nodes.specs.cny-base
pub use Rattle.tree_nodes.specs.tree-disk
