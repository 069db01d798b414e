pub mod Words
pub mod Batch
pub mod FirstFault
pub mod Reading
pub mod Manifests
pub mod Demo
