use Rattle.std.proofs.Common.{◌≤◌, take, length, sym, ap, subst, ◌∙◌}
use Rattle.df_form.proofs.front.Front.over.Goals as goal

pub first-requires : goal.first-requires
first-requires c = subst (λ nodes. c.self.inside.count ≤ length nodes) (sym c.deref.ensures) c.self.invariant

pub returns : goal.returns
returns c = c.first.ensures ∙ ap (take c.self.inside.count) c.deref.ensures ∙ c.self.view_is
