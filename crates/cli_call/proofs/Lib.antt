pub mod RootResults
pub mod InputLaws
pub mod StoreLaws
pub mod RootLaws
pub mod RootDatabase
pub mod CommandLaws
pub mod AloneLaws
pub mod Answered
pub mod ReadingRoot
pub mod ChangingRoot
pub mod LineLaws
pub mod OpenedEnds
pub mod CallFacts
pub mod CallEnds
pub mod RootStates
pub mod CallStates
pub mod RepositoryStates
pub mod CallKnown
pub mod BlockedEnds
pub mod CallLaws
pub mod InputBytes
pub mod OpeningDisks
pub mod OpeningRoot
pub mod LoadingRepository
pub mod BothDisks
pub mod ForRoot
pub mod Counting
pub mod ReadingEnds
pub mod AfterReading
pub mod Again
pub mod SetFaults
pub use Rattle.cny_laws.proofs.system-core.job-record
pub use Rattle.cny_laws.proofs.system-core.past-jobs
pub use Rattle.cny_laws.proofs as cny-laws
pub use Rattle.local_db.proofs as local-db
pub use Rattle.cny_laws.proofs.system-core as system-core
pub use Rattle.cny_laws.proofs.system-core.trove-stream
pub use Rattle.cny_laws.proofs.system-core.tree-disk
