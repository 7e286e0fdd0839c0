pub mod Words
pub mod Gathering
pub mod Branches
pub mod Once
pub mod Leaving
