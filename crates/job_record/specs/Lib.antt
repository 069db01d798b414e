pub mod Reading
pub mod Lists
pub mod Changed
pub mod Recorded
pub mod Telling
pub mod File
