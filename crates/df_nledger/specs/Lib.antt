pub mod Said
pub mod Clauses
pub mod Ledger
pub mod Calls
pub mod Setting
