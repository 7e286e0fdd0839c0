pub mod TableModel
pub mod Disagreement
pub mod Testing
