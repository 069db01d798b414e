pub mod Lists
pub mod Sending
pub mod Turns
pub use Rattle.trove_stream.specs.cny-base
pub use Rattle.trove_stream.specs.cny-stream
pub use Rattle.trove_stream.specs.trove-parts
pub use Rattle.trove_stream.specs as trove-stream
