pub mod Code
pub mod Correct
pub mod Ending
pub mod Named
pub mod mirror
