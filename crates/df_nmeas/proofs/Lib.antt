pub mod Words
pub mod Over
pub mod Parameters
pub mod Pairs
pub mod Guards
pub mod Sides
