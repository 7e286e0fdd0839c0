pub mod Fronts
pub mod Held
pub mod Joined
pub mod Retreated
pub mod Shorter
pub mod Lasts
