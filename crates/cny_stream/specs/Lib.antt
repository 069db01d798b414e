pub mod Item
pub mod ItemLaws
pub mod Cut
pub mod Decided
pub mod Owner
pub mod Record
pub mod Reading
