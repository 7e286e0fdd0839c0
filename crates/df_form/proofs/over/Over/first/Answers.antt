use Rattle.std.proofs.Common.{◌∙◌}
use Rattle.df_form.proofs.over.Over.first.Goals as goal

pub returns : goal.returns
returns c = c.with_front.ensures ∙ c.new-front.ensures
