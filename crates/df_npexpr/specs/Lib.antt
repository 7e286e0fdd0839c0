pub use Rattle.df_ntree.specs.Expr
pub use Rattle.df_ntree.specs.ExprSpelling
pub mod Reads
pub mod Rest
pub mod Parts
