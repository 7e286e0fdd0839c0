pub use Rattle.df_clause.specs.GroundView
pub mod Patterns
pub mod Matches
pub mod Instances
pub mod Rounds
pub mod Endings
