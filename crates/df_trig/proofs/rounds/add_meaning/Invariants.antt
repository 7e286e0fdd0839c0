use Rattle.std.proofs.Common.{◌≡◌, take}
use Rattle.df_form.specs.Sequent.{Sequent}
use Rattle.df_clause.specs.Lines.{lines_at}
use Rattle.df_clause.specs.GroundSet.{with_lines}
use Rattle.df_clause.specs.GroundView.{set_of}
use Rattle.df_trig.specs.Rounds.{AreFew}
use Rattle.df_trig.proofs.rounds.add_meaning.Given as goal

abbrev pub invariant-loop-clause : goal.invariant-loop-clause
invariant-loop-clause l = record {
  so_far : (s : Sequent) → set_of l.ground ≡ with_lines s (set_of l.fn.ground) (take l.clause (lines_at l.fn.ground.nodes l.number));
  few : AreFew (set_of l.ground);
}
