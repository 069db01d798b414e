pub mod Gathering
pub mod Contents
pub mod Targets
pub mod Outcome
pub mod Old
pub mod Agree
pub mod Wanted
pub mod Carrying
pub mod CarryingLaws
pub use Rattle.change_set.specs as change-set
pub use Rattle.local_db.specs.cny-base
pub use Rattle.local_db.specs.cny-stream
pub use Rattle.content_store.specs as content-store
pub use Rattle.local_db.specs.journal-log
pub use Rattle.local_db.specs.tree-disk
pub use Rattle.local_db.specs.tree-journal
pub use Rattle.local_db.specs.trove-parts
pub use Rattle.local_db.specs.trove-stream
pub use Rattle.change_pull.specs as change-pull
