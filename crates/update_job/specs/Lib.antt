pub mod Reach
pub mod Gone
pub mod Lists
pub mod Places
pub mod ByName
pub mod Changes
pub mod Allowed
pub mod Made
pub use Rattle.change_set.specs as change-set
pub use Rattle.change_set.specs.cny-base
pub use Rattle.change_set.specs.cny-stream
pub use Rattle.change_set.specs.trove-parts
pub use Rattle.change_set.specs.trove-stream
