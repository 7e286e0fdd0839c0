use Rattle.std.proofs.Common.{◌≡◌, length, take}
use Rattle.std.specs.List.{flat_map}
use Rattle.df_form.specs.SequentView.{sequent_of}
use Rattle.df_clause.specs.GroundSet.{with_lines}
use Rattle.df_clause.specs.GroundView.{set_of}
use Rattle.df_trig.specs.Matches.{pattern_lines}
use Rattle.df_trig.specs.Rounds.{AreFew}
use Rattle.df_trig.proofs.rounds.add_patterns.Given as goal

abbrev pub invariant-loop-pattern : goal.invariant-loop-pattern
invariant-loop-pattern g l = record {
  so_far : set_of l.ground ≡ with_lines (sequent_of l.sequent) (set_of l.fn.ground) (flat_map (pattern_lines (sequent_of l.sequent).world (length l.lists) l.first) (take l.pattern-index l.list));
  few : AreFew (set_of l.ground);
}
