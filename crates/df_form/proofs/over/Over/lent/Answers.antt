use Rattle.std.proofs.Common.{◌∙◌}
use Rattle.df_form.proofs.Pushing.{lent_front}
use Rattle.df_form.proofs.over.Over.lent.Goals as goal

pub returns : goal.returns
returns c = lent_front c.args.self.now c.self.inside.front c.self.inside.own c.with_front.result (c.with_front.ensures ∙ c.copy-front.ensures) c.self.view_is
