pub mod Lines
pub mod Answering
pub mod Telling
pub mod Replaying
pub mod Growing
pub mod OneLater
pub mod LaterNodes
