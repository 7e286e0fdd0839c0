pub mod Below
pub mod Deciding
pub mod Disagreements
pub mod Falsifying
