use Rattle.std.proofs.Common.{◌≡◌}
use Rattle.std.specs.List.{range_with_len}
use Rattle.df_form.specs.Sequent.{Sequent}
use Rattle.df_clause.specs.GroundSet.{with_meanings}
use Rattle.df_clause.specs.GroundView.{set_of}
use Rattle.df_trig.specs.Rounds.{AreFew}
use Rattle.df_trig.proofs.rounds.add_meanings.Given as goal

abbrev pub invariant-loop-place : goal.invariant-loop-place
invariant-loop-place l = record {
  so_far : (s : Sequent) → set_of l.ground ≡ with_meanings s (set_of l.fn.ground) (range_with_len l.first l.place);
  few : AreFew (set_of l.ground);
}
