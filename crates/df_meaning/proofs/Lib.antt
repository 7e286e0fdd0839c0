pub mod Outcomes
pub mod Growing
pub mod Lifting
pub mod Executing
pub mod Cases
pub mod Types
pub mod Typing
pub mod Stating
pub mod Wholes
pub mod Same
pub mod Reading
pub mod Shallow
pub mod Kept
pub mod Changing
pub mod Modulars
pub mod Texts
pub mod Laws
pub mod Endless
pub mod Simultaneous
pub mod Division
pub mod Counting
pub mod TypedReads
pub mod Definite
pub mod DefiniteRuns
mod RowStates
mod CallRows
mod LoopRows
mod ValueRows
mod OperatorRows
mod UpdateRows
mod ModularRows
mod EndlessRows
