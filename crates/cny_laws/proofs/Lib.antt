pub mod EditedTrees
pub mod EditedSystems
pub mod SeveralEdits
pub use Rattle.system_core.proofs as system-core
