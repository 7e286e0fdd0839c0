mod Measure
pub mod Loop
mod Readers
mod Parts
