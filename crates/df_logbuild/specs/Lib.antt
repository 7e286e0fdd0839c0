pub use Rattle.df_rules.specs.Derivation
pub mod Front
pub mod Runs
