pub mod Fakes
pub mod Names
pub mod Outside
pub mod Refusing
pub mod Status
pub mod Stored
