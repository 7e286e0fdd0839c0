pub mod Parts
pub mod Literals
pub mod Signs
pub mod Looking
pub mod Wanting
