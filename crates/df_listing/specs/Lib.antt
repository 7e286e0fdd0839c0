pub use Rattle.df_nmach.specs.Name
pub use Rattle.df_nmach.specs.Value
pub use Rattle.df_nmach.specs.State
pub use Rattle.df_nmach.specs.View
pub mod Listing
pub mod Ordinary
