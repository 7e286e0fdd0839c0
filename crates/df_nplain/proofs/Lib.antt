pub mod Outcomes
pub mod Growing
pub mod Texts
pub mod Short
