mod Numbers
mod Once
mod Items
mod Written
mod EntryItems
mod DeltaItems
mod Heads
mod Fronts
mod Unique
pub mod ByLists
pub mod Leading
pub mod Noted
pub mod Records
pub mod Keyed
pub mod Files
