pub mod TextPieces
pub mod Options
pub mod ReaderAnswers
pub mod LabelTexts
pub mod CountTexts
pub mod CountLoops
pub mod RevisionTexts
pub mod LongerBranches
pub mod KeptBranches
pub mod VersionTexts
pub mod VersionsReadBack
pub mod VersionReaders
pub mod VersionSteps
pub mod NextCounts
pub use Rattle.cny_base.proofs as cny-base
