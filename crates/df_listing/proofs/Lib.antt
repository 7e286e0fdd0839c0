pub mod Spelling
pub mod Reading
pub mod Instructions
pub mod Codes
