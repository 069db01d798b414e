pub mod CutLines
pub mod Names
pub mod Steps
pub mod WordLines
pub mod Values
pub mod OneReading
pub mod Ending
pub mod Owners
pub mod Carrying
pub mod FieldTexts
pub mod LineTexts
pub mod Adding
pub mod Leading
pub mod OneManifest
pub use Rattle.cny_dep.proofs as cny-dep
