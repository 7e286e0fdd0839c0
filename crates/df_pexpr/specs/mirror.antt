pub mod Reading
pub mod Construction
