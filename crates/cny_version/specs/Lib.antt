pub mod Label
pub mod Revision
pub mod Version
pub mod Kept
pub mod Filled
pub mod Made
pub mod Reading
pub mod Slices
pub mod Steps
pub mod TooLarge
pub mod Next
pub use Rattle.cny_base.specs as cny-base
