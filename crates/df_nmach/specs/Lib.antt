pub mod Name
pub mod Value
pub mod State
pub mod View
pub mod Step
pub mod Run
pub mod Front
