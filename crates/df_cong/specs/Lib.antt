pub mod Laws
pub mod Theory
pub mod ClassesView
pub mod Congruence
pub mod mirror
