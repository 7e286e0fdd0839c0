use Rattle.std.proofs.Common.{◌≡◌, ◌++◌, map, drop}
use Rattle.df_axiom.specs.Instance.{literal_at}
use Rattle.df_axiom.proofs.building.clause_at.Given as goal

abbrev pub invariant-loop-literal : goal.invariant-loop-literal
invariant-loop-literal l = l.clause.items ++ map (literal_at l.places) (drop l.literal-index l.literals) ≡ map (literal_at l.places) l.literals
