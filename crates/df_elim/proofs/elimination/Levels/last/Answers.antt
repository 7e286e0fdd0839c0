use Rattle.std.proofs.Common.{◌∙◌, ◌-◌, sym, ap, length, slice_get}
use Rattle.df_elim.proofs.Growing.{last_is}
use Rattle.df_elim.proofs.elimination.Levels.last.Goals as goal

pub returns-in-Some : goal.returns-in-Some
returns-in-Some c =
    let levels = c.args.self.now in
    last_is levels.first levels.others.items c.in-Some.level.now (ap (λ l. slice_get l (length l - 1)) (sym c.deref.ensures.value) ∙ sym c.in-Some.ensures.value)
