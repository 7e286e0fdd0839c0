pub mod Judging
mod ExprsTold
mod ArgumentsTold
mod CallsTold
mod CallSourcesTold
mod SourcesTold
mod Aspects
mod PlacesTold
mod VariablesTold
mod UpdatesTold
pub mod ClausesTold
mod SimpleTold
mod LoopsTold
pub mod StatementsTold
pub mod Looping
mod LoopedSides
mod Blocks
mod Listed
mod LoopedStatements
mod LoopedArguments
mod LoopsMade
mod LoopedBlocks
