pub mod Table
pub mod Scope
pub mod Latest
pub mod Globals
pub mod Meanings
pub mod Listing
pub mod Faults
pub mod Telling
