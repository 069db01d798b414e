pub mod Provided
pub mod Meeting
pub mod Bounds
pub mod Names
pub mod Noted
pub mod Putting
pub mod Edited
