pub mod Limits
pub mod Table
pub mod Line
pub mod Fault
pub mod Built
pub mod View
pub mod Shown
