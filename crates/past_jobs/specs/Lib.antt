pub mod Past
pub mod Table
pub mod Marks
pub mod Jobs
pub mod Seen
pub mod Outcome
