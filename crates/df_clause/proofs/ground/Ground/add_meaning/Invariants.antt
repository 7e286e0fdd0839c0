use Rattle.std.proofs.Common.{◌≡◌, map}
use Rattle.std.specs.List.{range_with_len}
use Rattle.df_form.specs.Log.{Connective}
use Rattle.df_form.specs.Sequent.{Sequent}
use Rattle.df_clause.specs.GroundSet.{with_lines}
use Rattle.df_clause.specs.GroundView.{set_of}
use Rattle.df_clause.proofs.ground.Ground.add_meaning.Given as goal

abbrev pub invariant-loop-clause : goal.invariant-loop-clause
invariant-loop-clause l = (s : Sequent) → set_of l.self ≡ with_lines s (set_of l.initial.self) (map (λ k. Connective l.number k) (range_with_len 0 l.clause))
