use Rattle.std.proofs.Common.{◌≡◌, take}
use Rattle.df_form.specs.SequentView.{sequent_of}
use Rattle.df_clause.specs.GroundSet.{with_lines}
use Rattle.df_clause.specs.GroundView.{set_of}
use Rattle.df_trig.specs.Matches.{pair_lines}
use Rattle.df_trig.specs.Rounds.{AreFew}
use Rattle.df_trig.proofs.rounds.add_pairs.Given as goal

abbrev pub invariant-loop-second : goal.invariant-loop-second
invariant-loop-second g l = record {
  so_far : set_of l.ground ≡ with_lines (sequent_of l.sequent) (set_of l.fn.ground) (take l.second-index (pair_lines l.pattern l.first l.others));
  few : AreFew (set_of l.ground);
}
