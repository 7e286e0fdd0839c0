pub mod Point
pub mod Verdict
