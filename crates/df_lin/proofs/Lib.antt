pub mod Counts
pub mod Whole
pub mod Backwards
pub mod NoPoint
