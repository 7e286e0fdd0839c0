pub mod Equal
pub mod Labels
pub mod Laws
pub mod PartitionView
pub mod HoldingView
pub mod SignsView
pub mod mirror
