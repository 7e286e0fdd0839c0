-- What an instance of a schema answers.
pub use Rattle.df_axiom.specs.Answers.{Instantiates}
