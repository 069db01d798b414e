pub mod Searching
pub mod Hashing
pub mod Indexing
pub mod Placing
pub mod Branches
pub mod Searches
pub mod LatestTrove
pub mod Refusing
pub mod Passing
pub mod Renewed
pub mod NextLists
pub mod PlacesLaws
pub use Rattle.trove_stream.proofs.cny-base
pub use Rattle.trove_stream.proofs.cny-stream
pub use Rattle.trove_stream.proofs as trove-stream
pub use Rattle.trove_stream.proofs.cny-dep
pub use Rattle.trove_stream.proofs.trove-parts
