use Rattle.std.proofs.Common.{◌∙◌, sym}
use Rattle.df_cong.specs.Congruence.{label_at}
use Rattle.df_model.proofs.UnlikeParts.{none_past}
use Rattle.df_model.proofs.tabulation.unlike.Goals as goal

pub returns-in_default : goal.returns-in_default
returns-in_default c = sym (c.loop-place.invariant ∙ none_past (label_at c.args.labels.now) c.loop-place.place c.args.first.now c.args.second.now c.in_default.ensures.lookup.3)
