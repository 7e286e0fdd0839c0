use Rattle.df_logbuild.proofs.Added.{ok_weaker, defined}
use Rattle.df_logbuild.proofs.derivation.Derivation.define.Goals as goal

pub returns-clause-added : goal.returns-clause-added
returns-clause-added c = ok_weaker c.add.result _ _ (λ added s all literals runs e. added s all literals runs (defined s c.args.self.now.nodes all c.args.node c.args.clause literals e)) c.add.ensures.added
