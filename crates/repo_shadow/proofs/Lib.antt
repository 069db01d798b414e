pub mod Lists
pub mod Versions
pub mod Troves
pub mod Refusals
pub mod MovedTroves
pub mod OneMove
pub mod Lookups
