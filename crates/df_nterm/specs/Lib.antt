pub mod Term
pub mod Same
pub mod Meaning
pub mod Expressions
pub mod Measuring
pub mod Laws
