use Rattle.std.proofs.Common.{◌≡◌}
use Rattle.std.specs.List.{range_with_len}
use Rattle.df_form.specs.Sequent.{Sequent}
use Rattle.df_clause.specs.GroundSet.{with_meanings}
use Rattle.df_clause.specs.GroundView.{set_of}
use Rattle.df_clause.proofs.ground.Ground.add_meanings.Given as goal

abbrev pub invariant-loop-number : goal.invariant-loop-number
invariant-loop-number l = (s : Sequent) → set_of l.self ≡ with_meanings s (set_of l.initial.self) (range_with_len 0 l.number)
