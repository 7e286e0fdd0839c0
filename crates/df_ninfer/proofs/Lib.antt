pub mod Behind
mod Marking
mod Guarding
mod Inferring
mod Looping
mod MarkedRuns
mod Declaring
mod InferredStatements
