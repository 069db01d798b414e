pub mod Cuts
pub mod VersionBytes
pub mod FlavorLength
pub mod IdFields
pub mod Reading
pub mod Rising
mod Taking
mod Writing
mod Lengths
pub mod ItemFields
pub mod OneList
pub mod Encodings
pub mod ItemsLaws
pub use Rattle.cny_version.proofs.cny-base
pub use Rattle.cny_stream.proofs as cny-stream
pub mod Counts
pub mod Orders
pub mod Sizes
