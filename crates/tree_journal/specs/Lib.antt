pub mod CanBePut
pub mod Staging
pub mod Recovery
pub mod Passes
pub mod Visible
pub mod Apply
pub mod EmptyStage
pub mod Preparing
pub mod Steps
pub mod Found
pub mod Recovering
pub mod Recovered
pub use Rattle.journal_log.specs as journal-log
pub use Rattle.journal_log.specs.tree-disk
