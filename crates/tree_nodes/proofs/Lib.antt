pub mod StoredTree
pub mod Moved
pub mod Between
pub mod Children
pub mod Edits
pub mod Starts
pub mod Held
pub mod CrashImage
pub mod Left
pub mod Tried
pub use Rattle.tree_disk.proofs as tree-disk
pub use Rattle.tree_disk.proofs.cny-base
