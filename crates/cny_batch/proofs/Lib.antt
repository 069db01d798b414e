pub mod Parts
pub mod Commands
pub mod Cuts
pub mod Lines
pub mod Spellings
pub mod Stops
pub mod OneBatch
pub mod Each
