use Rattle.std.proofs.Common.{◌≡◌}
use Rattle.df_form.specs.SequentView.{sequent_of}
use Rattle.df_clause.specs.GroundView.{set_of}
use Rattle.df_trig.specs.Instances.{instances}
use Rattle.df_trig.proofs.rounds.instances.Given as goal

abbrev pub invariant-loop-done : goal.invariant-loop-done
invariant-loop-done g l = set_of l.ground ≡ instances (sequent_of l.sequent) l._done
