pub mod State
pub mod Files
pub mod Reading
pub mod Damage
pub mod Steps
pub mod Counts
pub mod Looks
pub mod Seen
pub mod Loading
pub mod Contents
pub mod ContentsLaws
pub mod RepoContents
pub use Rattle.repo_index.specs.cny-base
pub use Rattle.content_store.specs as content-store
pub use Rattle.repo_index.specs.cny-stream
pub use Rattle.journal_log.specs as journal-log
pub use Rattle.journal_log.specs.tree-disk
pub use Rattle.repo_index.specs.trove-parts
pub use Rattle.repo_index.specs.trove-stream
