pub mod FileNames
mod Streams
mod TrovesRead
mod Damages
pub mod Committing
pub mod HeldCatalogues
pub mod CountedNames
mod Written
pub mod Kept
pub mod Joined
pub mod Resolved
pub mod CommitsRead
pub mod Counted
pub mod Stored
pub mod Sourced
pub mod ContentsLaws
pub mod Following
pub mod Holding
pub mod Seeing
pub mod LooksLaws
pub use Rattle.content_store.proofs as content-store
pub use Rattle.repo_index.proofs.cny-base
pub use Rattle.journal_log.proofs.tree-disk
