pub mod Recorded
pub mod Moves
pub mod Done
pub mod Changed
pub mod Crashed
pub mod Replay
