pub use Rattle.df_ntree.specs.File
pub use Rattle.df_ntree.specs.FileSpelling
pub mod Refusing
