pub mod Halting
pub mod Standing
pub mod Rows
pub mod Quiet
pub mod Turns
pub mod Operators
pub mod Advances
pub mod Finishes
