pub mod Tasks
pub mod Prints
