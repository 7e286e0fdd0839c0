use Rattle.df_logbuild.proofs.Added.{finished}
use Rattle.df_logbuild.proofs.law.logs_end_with_empty_clauses.Goals as goal

pub returns : goal.returns
returns c = λ s d clauses runs. finished s d clauses runs
