pub mod Equal
pub mod Runs
pub mod Samples
