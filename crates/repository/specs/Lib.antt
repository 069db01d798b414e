pub mod Parts
pub mod Tests
pub mod Verdict
pub mod Steps
pub mod Outcome
pub mod Order
pub mod Stage
pub mod Preparing
pub mod Between
pub mod Damage
pub mod BetweenSteps
pub use Rattle.change_set.specs as change-set
pub use Rattle.repo_load.specs.trove-stream
