pub mod Reading
pub mod SpecLists
pub mod WordEnds
pub mod CallWords
