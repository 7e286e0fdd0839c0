pub mod Told
pub mod Paths
pub mod Sorted
pub mod Below
pub mod Answering
pub mod Ordering
pub mod Laws
pub mod Equal
