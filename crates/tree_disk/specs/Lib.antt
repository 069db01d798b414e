pub mod Tree
pub mod Rows
pub mod Looks
pub mod Disk
pub mod Laws
pub mod Nodes
pub mod Moments
pub mod Confined
pub mod Steps
pub mod Unfailed
pub mod Untold
pub mod Whole
pub mod Clear
pub use Rattle.cny_base.specs as cny-base
