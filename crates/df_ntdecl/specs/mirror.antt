pub mod Bounds
pub mod Declarations
