pub mod mirror
pub mod Position
