pub mod Refusals
pub mod Builders
pub mod Found
pub mod Ranges
pub mod Rows
mod Decimals
mod Names
