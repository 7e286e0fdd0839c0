pub mod Steps
pub mod Sides
pub mod Clauses
pub mod Statements
