pub mod Links
pub mod ClassesView
pub mod Closing
pub mod Accepted
pub mod Refusal
pub mod CheckerView
pub mod Lines
