pub mod Meanings
pub mod Parts
pub mod Same
pub mod Falling
pub mod Kept
