pub mod Failures
pub mod Report
pub mod Input
pub mod Reading
pub mod Stops
pub mod State
pub mod Store
pub mod Stores
pub mod Shown
pub mod Opening
pub mod RootOpening
pub mod Call
pub mod WholeCall
pub mod Edits
pub use Rattle.system_core.specs as system-core
