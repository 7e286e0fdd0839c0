-- Clauses that are true whatever the free terms are.
pub use Rattle.df_axiom.specs.Truth.{IsTrue}
