pub mod SameTypes
pub mod Lists
