use Rattle.std.proofs.Common.{◌≡◌, length, take}
use Rattle.std.specs.List.{flat_map, range_with_len}
use Rattle.df_form.specs.SequentView.{sequent_of}
use Rattle.df_clause.specs.GroundSet.{with_lines}
use Rattle.df_clause.specs.GroundView.{set_of}
use Rattle.df_trig.specs.Matches.{first_lines}
use Rattle.df_trig.specs.Rounds.{AreFew}
use Rattle.df_trig.proofs.rounds.add_firsts.Given as goal

abbrev pub invariant-loop-first : goal.invariant-loop-first
invariant-loop-first g l = record {
  so_far : set_of l.ground ≡ with_lines (sequent_of l.sequent) (set_of l.fn.ground) (flat_map (first_lines (sequent_of l.sequent).world (length l.lists) l.fn.ground.nodes) (take l.first (range_with_len 0 (length l.lists))));
  few : AreFew (set_of l.ground);
}
