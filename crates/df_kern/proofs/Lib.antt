pub mod Ends
pub mod Checks
pub mod Links
pub mod Joining
pub mod Refusals
pub mod Splitting
