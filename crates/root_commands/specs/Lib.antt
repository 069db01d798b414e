pub mod Listing
pub mod Verifying
pub mod RollingBack
pub mod Noting
pub mod Jobs
pub mod LocalChanges
pub mod Records
pub mod JobOutcome
pub mod Erase
pub mod Install
pub mod Update
pub mod UpdateSpecs
pub mod Syncing
pub use Rattle.cli_call.specs as cli-call
pub use Rattle.dep_closure.specs as dep-closure
pub use Rattle.sys_model.specs as sys-model
pub use Rattle.root_edits.specs as root-edits
