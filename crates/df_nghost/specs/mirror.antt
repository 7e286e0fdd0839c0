pub mod Parts
pub mod Listed
pub mod Known
pub mod Uses
pub mod Way
pub mod Refusals
