pub mod Measured
pub mod Running
pub mod Simulating
pub mod Sides
pub mod Clauses
pub mod Order
pub mod Measuring
pub mod Counted
pub mod Sources
pub mod Statements
pub mod Heads
pub mod Loops
pub mod Returned
pub mod Ends
pub mod Calls
pub mod Bodies
pub mod Methods
mod CorrectRows
