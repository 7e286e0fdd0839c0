use Rattle.std.proofs.Common.{◌≡◌, drop}
use Rattle.df_form.specs.Clause.{is_among}
use Rattle.df_trail.proofs.join.holds.Given as goal

abbrev pub invariant-loop-other : goal.invariant-loop-other
invariant-loop-other l = is_among l.literals l.literal ≡ is_among (drop l.other-index l.literals) l.literal
