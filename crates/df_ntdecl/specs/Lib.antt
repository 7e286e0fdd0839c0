pub mod Results
pub mod mirror
