pub mod Answer
pub mod Input
pub mod Command
pub mod Alone
pub mod Line
pub mod Runs
pub mod SetInput
pub mod ManifestInput
pub use Rattle.cny_laws.specs as cny-laws
pub use Rattle.cny_laws.specs.system-core.change-rel
pub use Rattle.cny_laws.specs.system-core.change-set
pub use Rattle.cny_laws.specs.system-core.cny-base
pub use Rattle.cny_laws.specs.system-core.conflict-plan
pub use Rattle.cny_laws.specs.system-core.content-store
pub use Rattle.cny_laws.specs.system-core.cny-stream
pub use Rattle.cny_laws.specs.system-core.job-record
pub use Rattle.cny_laws.specs.system-core.past-jobs
pub use Rattle.cny_laws.specs.system-core.job-targets
pub use Rattle.cny_laws.specs.system-core.journal-log
pub use Rattle.local_db.specs as local-db
pub use Rattle.cny_laws.specs.system-core.rollback-stack
pub use Rattle.cny_laws.specs.system-core as system-core
pub use Rattle.cny_laws.specs.system-core.tree-disk
pub use Rattle.cny_laws.specs.system-core.tree-journal
pub use Rattle.cny_laws.specs.system-core.tree-scan
pub use Rattle.cny_laws.specs.system-core.trove-parts
pub use Rattle.cny_laws.specs.system-core.trove-stream
