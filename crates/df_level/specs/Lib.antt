pub mod Exact
pub mod Entries
pub mod Row
pub mod Merge
pub mod Division
pub mod Levels
pub mod Way
pub mod Elimination
