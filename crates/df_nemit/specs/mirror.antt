pub mod Emitting
pub mod Drafts
