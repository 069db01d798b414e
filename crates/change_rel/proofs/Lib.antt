mod Steps
mod Passes
mod OneResult
mod Leading
pub mod Sent
pub use Rattle.trove_stream.proofs as trove-stream
pub use Rattle.trove_stream.proofs.cny-base
pub use Rattle.trove_stream.proofs.trove-parts
pub use Rattle.cny_dep.proofs as cny-dep
pub use Rattle.trove_stream.proofs.cny-stream
pub mod Unique
