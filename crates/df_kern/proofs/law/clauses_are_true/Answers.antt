use Rattle.df_rules.proofs.Sound.{true_schemas, true_connectives}
use Rattle.df_kern.proofs.law.clauses_are_true.Goals as goal

pub returns : goal.returns
returns c = record { schemas = true_schemas; connectives = true_connectives }
