pub mod Source
pub mod Naming
pub mod Refused
pub mod Line
pub mod Told
