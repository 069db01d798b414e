pub mod Lines
pub mod Entries
pub mod Body
pub mod Grammar
pub mod FirstFault
pub mod Made
pub mod Reading
pub mod Makes
pub mod Spelling
pub use Rattle.manifest_troves.specs as manifest-troves
