pub mod Meaning
pub mod Answers
pub mod View
pub mod Numbers
pub mod Equal
pub mod Makes
pub mod Compact
pub mod Carried
