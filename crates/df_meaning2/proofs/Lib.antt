pub mod Outcomes
pub mod Equality
pub mod Kept
pub mod Evaluating
pub mod Executing
pub mod Deepening
pub mod Alls
pub mod RowTypes
pub mod ExprTypes
pub mod StmtTypes
pub mod Declared
pub mod WholeTypes
pub mod Agreeing
pub mod ReadingInside
pub mod Printed
mod Samples
mod RowSamples
mod StatementSamples
