use Rattle.std.proofs.Common.{refl}
use Rattle.df_logbuild.proofs.Added.{one_more}
use Rattle.df_logbuild.proofs.derivation.Derivation.add.Goals as goal

pub returns-clause-added : goal.returns-clause-added
returns-clause-added c = λ s clauses clause runs step. one_more s c.args.self.now _ clauses clause c.args.line c.in_ok-push.ensures.items refl refl runs step
