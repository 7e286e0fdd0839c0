pub mod Parts
pub mod TypedViews
pub mod Asked
pub mod Replies
