pub mod Equal
pub mod Runs
pub mod Arithmetic
pub mod Examples
