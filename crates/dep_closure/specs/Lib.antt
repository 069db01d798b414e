pub mod Closed
pub mod Changed
pub mod Slots
