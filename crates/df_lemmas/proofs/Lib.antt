pub mod Truths
pub mod Options
pub mod Lists
pub mod Loops
pub mod Alls
pub mod Numbers
pub mod Integers
