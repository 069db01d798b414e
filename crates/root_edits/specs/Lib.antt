pub mod Verify
pub mod Reached
pub mod Moved
pub mod Standing
pub mod Local
pub mod Steps
pub use Rattle.update_job.specs.change-set
pub use Rattle.update_job.specs.trove-stream
