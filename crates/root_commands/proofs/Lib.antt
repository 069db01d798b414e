pub mod Answering
pub mod Verified
pub mod VerifyEnds
pub mod FullEnds
pub mod TakingBack
pub mod RollEnds
pub mod Turning
pub mod Changed
pub mod JobEnds
pub mod LocalEnds
pub mod RecordEnds
pub mod JobStates
pub mod SpecifiedEnds
pub mod JobOpened
pub mod InstallEnds
pub mod MoreAnswers
pub mod FarJobs
pub mod WholeJobs
pub mod ComingEnds
pub mod SpecEnds
pub mod SyncEnds
pub mod JobStays
pub use Rattle.cli_call.proofs as cli-call
pub use Rattle.sys_model.proofs as sys-model
