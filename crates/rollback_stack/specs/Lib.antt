pub mod Numbers
pub mod Reading
pub mod Inverse
pub mod Taking
pub mod Wanting
pub mod Migrated
pub mod Seen
pub mod Entries
pub mod Database
pub mod Saving
pub mod Pushing
pub mod JobEntries
pub mod Halves
pub mod JobReading
pub use Rattle.change_rel.specs as change-rel
pub use Rattle.job_targets.specs.change-set
pub use Rattle.job_targets.specs.cny-base
pub use Rattle.job_targets.specs.content-store
pub use Rattle.job_targets.specs.cny-stream
pub use Rattle.job_record.specs as job-record
pub use Rattle.past_jobs.specs as past-jobs
pub use Rattle.job_targets.specs.journal-log
pub use Rattle.job_targets.specs.tree-disk
pub use Rattle.tree_scan.specs as tree-scan
pub use Rattle.job_targets.specs.trove-parts
pub use Rattle.job_targets.specs.trove-stream
