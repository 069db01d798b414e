pub mod ChangeSet
pub mod Contents
pub mod FirstFault
pub mod Index
pub mod Makes
pub mod Reading
pub mod TooLarge
pub use Rattle.trove_stream.specs.cny-base
pub use Rattle.trove_stream.specs.cny-stream
pub use Rattle.trove_stream.specs.trove-parts
pub use Rattle.trove_stream.specs as trove-stream
