pub mod TableNumbers
pub mod Tabulation
pub mod Solution
pub mod Valuation
pub mod Numbers
