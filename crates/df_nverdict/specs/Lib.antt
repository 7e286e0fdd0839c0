pub mod Sequents
pub mod Verdict
pub mod View
pub mod Judging
pub mod Laws
