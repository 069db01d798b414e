pub mod Id
pub mod Order
pub mod Parts
pub mod Items
pub mod Files
pub mod Refs
pub mod Deps
pub mod Paths
pub mod Places
pub use Rattle.cny_version.specs.cny-base
pub use Rattle.cny_dep.specs as cny-dep
pub use Rattle.cny_stream.specs as cny-stream
