mod Texts
pub mod Found
mod Numbers
mod Written
pub mod Apart
pub mod Holding
pub mod Writes
pub mod Items
pub mod Places
pub mod Frame
pub mod Unions
pub mod Systems
pub mod Jobs
pub mod Images
pub mod Sorted
pub mod OneResult
pub mod Spellings
pub mod OneSystem
pub mod Together
pub mod Several
pub mod Other
pub mod Putting
pub mod FileNames
pub mod Unedited
pub mod StagedContents
pub use Rattle.tree_journal.proofs as tree-journal
pub use Rattle.trove_stream.proofs as trove-stream
pub use Rattle.tree_journal.proofs.tree-disk
pub use Rattle.trove_stream.proofs.cny-base
pub use Rattle.tree_journal.proofs.journal-log
pub use Rattle.trove_stream.proofs.trove-parts
