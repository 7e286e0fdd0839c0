pub mod mirror
pub mod Definite
