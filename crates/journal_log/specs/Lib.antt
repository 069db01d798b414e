pub mod Own
pub mod Staged
pub mod Numbers
pub mod WriteSet
pub mod Targets
pub mod LogBytes
pub mod Rules
pub mod Joined
pub mod PutItem
pub mod TwoStrs
pub mod Walk
pub use Rattle.tree_disk.specs.cny-base
pub use Rattle.tree_disk.specs as tree-disk
