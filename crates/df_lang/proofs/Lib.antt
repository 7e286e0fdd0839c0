pub mod Samples
pub mod Carrying
mod TypingRows
mod AssignmentRows
mod NativeRows
