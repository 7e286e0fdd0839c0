use Rattle.std.proofs.Common.{◌∙◌, ◌-◌, sym, ap, length, slice_get}
use Rattle.df_trail.proofs.Lasts.{told_of_last, none_last}
use Rattle.df_trail.proofs.trail.Trail.is_fresh.Goals as goal

pub returns-in-Some : goal.returns-in-Some
returns-in-Some c = told_of_last c.args.self.now c.in-Some.decision.now (ap (λ l. slice_get l (length l - 1)) (sym c.deref.ensures.value) ∙ sym c.in-Some.ensures.value) c.is_none.result c.is_none.ensures

pub returns-in-None : goal.returns-in-None
returns-in-None c = none_last c.args.self.now (ap (λ l. slice_get l (length l - 1)) (sym c.deref.ensures.value) ∙ sym c.in-None.ensures.value)
