pub mod RootReady
pub mod RootWriting
pub mod FixedDirs
pub mod Opening
pub mod Migrating
pub mod Ready
pub mod Last
pub mod JobWriting
pub mod Answers
pub mod Changing
pub mod Job
pub mod Lists
pub mod StagedWrites
pub mod Something
pub mod Steps
pub mod Tests
pub mod Inserting
pub mod Rollback
pub mod Restoring
pub mod Several
pub mod RestoringAll
pub use Rattle.rollback_stack.specs.change-rel
pub use Rattle.rollback_stack.specs.change-set
pub use Rattle.rollback_stack.specs.cny-base
pub use Rattle.conflict_plan.specs as conflict-plan
pub use Rattle.rollback_stack.specs.content-store
pub use Rattle.rollback_stack.specs.cny-stream
pub use Rattle.rollback_stack.specs.job-record
pub use Rattle.rollback_stack.specs.past-jobs
pub use Rattle.job_targets.specs as job-targets
pub use Rattle.rollback_stack.specs.journal-log
pub use Rattle.rollback_stack.specs as rollback-stack
pub use Rattle.rollback_stack.specs.tree-disk
pub use Rattle.tree_journal.specs as tree-journal
pub use Rattle.rollback_stack.specs.tree-scan
pub use Rattle.rollback_stack.specs.trove-parts
pub use Rattle.rollback_stack.specs.trove-stream
