pub mod Lists
pub mod References
pub mod Sources
pub mod Making
pub mod Held
pub mod Stepping
pub mod Checking
mod Compared
pub mod Placing
pub mod Putting
pub mod States
pub mod Readying
pub mod Resting
pub mod StagedContents
pub mod Unique
pub mod Applied
pub mod Within
pub mod Written
pub mod Readable
pub mod Outcomes
pub mod Ordering
pub mod Members
mod Searched
mod Told
mod Gathered
mod Fitting
pub mod BetweenCarrying
pub mod SetLaws
pub use Rattle.change_set.proofs as change-set
