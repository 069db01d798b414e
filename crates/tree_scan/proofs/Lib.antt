pub mod Buffers
pub mod Counts
pub mod Seen
pub mod MarkLaws
pub mod ReadingLaws
pub use Rattle.tree_disk.proofs as tree-disk
