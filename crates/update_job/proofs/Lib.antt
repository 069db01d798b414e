pub mod Elements
pub mod Adding
pub mod Searching
pub mod Leaving
pub mod Mapped
pub mod Lists
pub mod Noting
pub mod Firsts
pub mod Reserved
pub mod Making
pub mod Unique
pub mod Bases
pub use Rattle.change_rel.proofs.trove-parts
pub use Rattle.change_set.proofs as change-set
