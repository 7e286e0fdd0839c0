pub mod Names
pub mod Derived
pub mod Refused
pub mod Verified
pub mod Checking
pub mod Proofs
pub mod Laws
