pub mod Rules
pub mod Said
pub mod Headings
pub mod Views
pub mod mirror
