use Rattle.std.proofs.Common.{map}
use Rattle.df_form.specs.Log.{combination_of}
use Rattle.df_logbuild.proofs.Added.{ok_weaker, refuted}
use Rattle.df_logbuild.proofs.derivation.Derivation.refute.Goals as goal

pub returns-clause-added : goal.returns-clause-added
returns-clause-added c = ok_weaker c.add.result _ _ (λ added s all runs e. added s all c.args.conclusion.items runs (refuted s c.args.self.now.nodes all c.args.conclusion.items (map combination_of c.args.combinations.items) e)) c.add.ensures.added
