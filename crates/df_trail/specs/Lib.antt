pub use Rattle.df_logbuild.specs.Runs
pub mod Trail
