pub mod Environments
pub mod Outlooks
