use Rattle.std.proofs.Common.{◌≡◌, take}
use Rattle.df_form.specs.SequentView.{sequent_of}
use Rattle.df_clause.specs.GroundSet.{with_lines, hypothesis_lines}
use Rattle.df_clause.specs.GroundView.{set_of}
use Rattle.df_clause.proofs.ground.Ground.add_hypotheses.Given as goal

abbrev pub invariant-loop-number : goal.invariant-loop-number
invariant-loop-number l = set_of l.self ≡ with_lines (sequent_of l.sequent) (set_of l.initial.self) (take l.number (hypothesis_lines (sequent_of l.sequent)))
