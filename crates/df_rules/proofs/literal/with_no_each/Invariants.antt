use Rattle.std.proofs.Common.{◌≡◌, ◌∷◌, map, take}
use Rattle.df_form.specs.Clause.{no}
use Rattle.df_rules.proofs.literal.with_no_each.Given as goal

abbrev pub invariant-loop-part : goal.invariant-loop-part
invariant-loop-part l = l.clause.items ≡ l.fn.first ∷ map no (take l.part-index l.parts)
