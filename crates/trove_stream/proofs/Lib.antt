pub mod Names
mod Heads
pub mod Lists
mod OneTrove
pub mod Merging
pub mod Equal
mod RelStreamParts
mod Whole
mod OneRel
pub mod Places
pub mod Members
pub mod OneLed
pub use Rattle.trove_parts.proofs as trove-parts
pub use Rattle.trove_parts.proofs.cny-base
pub use Rattle.trove_parts.proofs.cny-stream
pub use Rattle.cny_dep.proofs as cny-dep
pub mod Distinct
