pub mod Refusing
pub mod Source
