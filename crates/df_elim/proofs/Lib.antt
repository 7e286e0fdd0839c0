pub mod Variables
pub mod Growing
pub mod Keeping
pub mod Holding
pub mod Telling
