use Rattle.df_logbuild.proofs.Added.{ok_weaker, propagated}
use Rattle.df_logbuild.proofs.derivation.Derivation.propagate.Goals as goal

pub returns-clause-added : goal.returns-clause-added
returns-clause-added c = ok_weaker c.add.result _ _ (λ added s all runs e. added s all c.args.conclusion.items runs (propagated s c.args.self.now.nodes all c.args.clauses.items c.args.conclusion.items e)) c.add.ensures.added
