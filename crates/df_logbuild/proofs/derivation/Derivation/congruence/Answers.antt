use Rattle.df_logbuild.proofs.Added.{ok_weaker, incongruent}
use Rattle.df_logbuild.proofs.derivation.Derivation.congruence.Goals as goal

pub returns-clause-added : goal.returns-clause-added
returns-clause-added c = ok_weaker c.add.result _ _ (λ added s all runs e. added s all c.args.conclusion.items runs (incongruent s c.args.self.now.nodes all c.args.conclusion.items c.args.pairs.items e)) c.add.ensures.added
