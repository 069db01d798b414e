pub mod Stops
pub mod Patterns
pub mod Walk
pub mod Plan
pub mod Judged
pub mod Head
pub mod Entries
pub mod Gives
pub mod Packs
pub mod Causes
pub mod Halts
pub use Rattle.tree_disk.specs as tree-disk
pub use Rattle.tree_disk.specs.cny-base
