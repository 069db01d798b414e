pub mod Policy
pub mod Troves
pub mod Shares
pub mod Contents
pub mod Kept
pub use Rattle.change_set.specs as change-set
pub use Rattle.change_set.specs.cny-base
pub use Rattle.change_set.specs.cny-stream
pub use Rattle.change_set.specs.trove-parts
pub use Rattle.change_set.specs.trove-stream
