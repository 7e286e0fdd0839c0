pub mod History
pub mod Needed
