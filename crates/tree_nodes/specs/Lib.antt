pub mod Stored
pub mod Codes
pub mod Start
pub mod Below
pub mod Edit
pub mod Crash
pub mod Attempts
pub use Rattle.tree_disk.specs.cny-base
pub use Rattle.tree_disk.specs as tree-disk
