use Rattle.std.proofs.Common.{slice_get, ap, ◌∙◌}
use Rattle.df_form.specs.Offset.{offsets}
use Rattle.df_form.proofs.front.FrontNodeTable.known_offset.Goals as goal

pub returns : goal.returns
returns c = c.offset.ensures ∙ ap (λ nodes. slice_get (offsets nodes) c.args.number) c.lent.ensures
