pub mod Reading
pub mod ExprReading
pub mod FileReading
