pub mod Difference
pub mod Namers
pub mod Store
pub mod Outcome
pub mod Contents
pub mod Searches
