use Rattle.std.proofs.Common.{◌≡◌, ◌∷◌, map, take}
use Rattle.df_form.specs.Clause.{yes}
use Rattle.df_rules.proofs.literal.with_each.Given as goal

abbrev pub invariant-loop-part : goal.invariant-loop-part
invariant-loop-part l = l.clause.items ≡ l.fn.first ∷ map yes (take l.part-index l.parts)
