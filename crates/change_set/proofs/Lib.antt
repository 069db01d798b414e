pub mod ContentValue
pub mod ContentsRead
pub mod Faults
pub mod GoodItems
pub mod Indexing
pub mod Making
pub mod Progress
pub mod SameSet
pub mod Small
pub mod Taking
pub mod Written
pub use Rattle.trove_stream.proofs.trove-parts
pub use Rattle.trove_stream.proofs.cny-base
pub use Rattle.trove_stream.proofs as trove-stream
pub use Rattle.trove_stream.proofs.cny-stream
pub mod Carrying
