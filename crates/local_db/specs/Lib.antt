pub mod Database
pub mod Reading
pub mod Sharing
pub mod Loading
pub mod Writing
pub mod MarkBytes
pub mod Installed
pub mod Formats
pub mod SystemState
pub mod Names
pub mod Record
pub mod Stores
pub mod Stage
pub mod Steps
pub mod RecordText
pub use Rattle.trove_stream.specs.cny-base
pub use Rattle.cny_stream.specs as cny-stream
pub use Rattle.content_store.specs as content-store
pub use Rattle.tree_journal.specs.journal-log
pub use Rattle.tree_journal.specs.tree-disk
pub use Rattle.tree_journal.specs as tree-journal
pub use Rattle.trove_stream.specs.trove-parts
pub use Rattle.trove_stream.specs as trove-stream
