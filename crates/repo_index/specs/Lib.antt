pub mod Catalogue
pub mod Places
pub mod Keys
pub mod Hashes
pub mod Index
pub mod Next
pub mod Steps
pub use Rattle.trove_stream.specs.cny-base
pub use Rattle.trove_stream.specs.cny-dep
pub use Rattle.trove_stream.specs.cny-stream
pub use Rattle.trove_stream.specs.trove-parts
pub use Rattle.trove_stream.specs as trove-stream
