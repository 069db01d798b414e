mod Added
pub mod Answered
mod Listed
pub mod SearchLaws
mod Stopping
mod Members
mod Choosing
mod MovedIds
mod Troves
mod Seeing
mod Setting
