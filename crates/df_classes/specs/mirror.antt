pub mod State
pub mod Partition
pub mod Closure
pub mod Steps
pub mod Clash
pub mod Users
pub mod Signs
