pub mod Marks
pub mod Looks
pub mod Differing
pub mod OnlyReads
pub use Rattle.tree_disk.specs as tree-disk
