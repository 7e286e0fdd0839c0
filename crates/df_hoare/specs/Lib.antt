pub mod Total
pub mod Ends
