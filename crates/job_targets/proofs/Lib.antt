mod Carrying
pub mod WholeWrites
mod StagedPlaces
pub mod Changing
mod Fitting
pub mod GatherLaws
mod Gathered
pub mod Listed
mod Standing
pub mod Paths
mod Noting
pub use Rattle.content_store.proofs as content-store
pub use Rattle.local_db.proofs.tree-journal
pub use Rattle.local_db.proofs.trove-stream
pub use Rattle.local_db.proofs.tree-disk
pub use Rattle.local_db.proofs.cny-base
pub use Rattle.conflict_plan.proofs as conflict-plan
