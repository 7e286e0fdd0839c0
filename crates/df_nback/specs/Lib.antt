pub mod MethodNames
pub mod Run
