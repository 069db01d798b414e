pub mod Asked
mod OneStream
pub mod SentSets
mod Taken
pub mod IdLists
pub mod ItemFaults
mod SetReplies
pub mod Searching
pub mod Lengthening
pub mod Gathering
pub mod Weighing
pub mod Absolutes
pub mod Answering
