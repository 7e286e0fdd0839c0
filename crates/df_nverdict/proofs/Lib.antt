pub mod Correct
pub mod Judgements
pub mod Methods
pub mod Positions
