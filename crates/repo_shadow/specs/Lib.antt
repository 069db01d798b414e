pub mod Moved
pub mod Within
pub mod Steps
