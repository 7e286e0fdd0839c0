pub mod BackSubstitution
pub mod BackView
pub mod Ranges
