pub mod Walk
pub mod Complete
pub mod Sound
pub mod Built
pub mod Spelled
pub mod Local
pub mod Stopping
