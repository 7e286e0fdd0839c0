pub mod Tree
pub mod Growing
pub mod Standing
pub mod Views
pub mod Encoding
pub mod Siblings
pub mod Laws
