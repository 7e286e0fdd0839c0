pub mod Found
pub mod Places
pub mod Searching
pub mod Moves
pub mod Lessening
