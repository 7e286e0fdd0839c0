pub mod Obligation
pub mod Laws
pub mod Listing
pub mod Renumbering
pub mod Counts
pub mod Owed
