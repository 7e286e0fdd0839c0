pub mod Erasing
pub mod First
pub mod Refusals
pub mod Simulation
pub mod Running
pub mod Views
pub mod Eraser
pub mod mirror
