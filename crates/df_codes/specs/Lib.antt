pub mod Ranges
pub mod Edges
pub mod Numbers
pub mod Programs
pub mod Refusing
