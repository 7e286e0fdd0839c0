pub mod Rules
pub mod Statements
pub mod Methods
pub mod Handing
pub mod Laws
