pub mod Noting
pub mod Later
pub mod OneRecord
pub mod Mapped
pub mod TakingJobs
pub mod TakenBack
mod Below
pub mod Finding
pub mod Doubling
pub mod Rewriting
pub mod Migrating
pub mod Given
pub mod Places
pub mod Putting
pub mod Saved
pub mod Keeping
pub mod Pushed
mod Halves
pub mod HoldingRecords
mod JobsRead
mod RecordedMarks
mod ToldMarks
pub mod Mapping
pub use Rattle.job_record.proofs as job-record
pub use Rattle.past_jobs.proofs as past-jobs
pub use Rattle.job_targets.proofs.trove-stream
pub use Rattle.job_targets.proofs.tree-disk
pub use Rattle.tree_scan.proofs as tree-scan
pub use Rattle.job_targets.proofs.cny-base
