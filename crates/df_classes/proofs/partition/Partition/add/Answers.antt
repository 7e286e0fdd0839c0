use Rattle.std.proofs.Common.{refl, [], ◌∷◌}
use Rattle.df_classes.proofs.Retreating.{extends_none, extends_pair}
use Rattle.df_classes.proofs.partition.Partition.add.Goals as goal

pub returns-in_err-push-clause-extends : goal.returns-in_err-push-clause-extends
returns-in_err-push-clause-extends c = extends_none c.args.self.now _ refl refl c.in_err-push.ensures.items

pub returns-clause-extends : goal.returns-clause-extends
returns-clause-extends c = extends_pair c.args.self.now _ (c.args.pair ∷ []) refl refl c.in_ok-push.ensures.items
