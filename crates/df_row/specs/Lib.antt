pub mod Row
pub mod Linear
pub mod RowView
pub mod ExpansionView
pub mod LinearView
pub mod Value
