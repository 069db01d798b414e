pub mod Asking
pub mod Mirroring
pub mod Faults
pub mod Requests
pub mod Replies
pub use Rattle.change_set.specs as change-set
pub use Rattle.change_set.specs.cny-base
pub use Rattle.change_set.specs.trove-parts
pub use Rattle.change_set.specs.trove-stream
pub mod Absolute
pub mod Lengths
pub mod Missing
pub mod Sums
pub use Rattle.change_set.specs.cny-stream
