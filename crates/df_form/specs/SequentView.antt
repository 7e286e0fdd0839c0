-- The code's sequents, without where they lie in memory.
use Rattle.df_form.specs.World.{world_of}
use Rattle.df_form.specs.Sequent.{Sequent}
use Rattle.df_form.specs.declared.sequent.Sequent as declared

abbrev pub sequent_of : declared.Sequent → Sequent
sequent_of s = record { world = world_of s.world; nodes = s.nodes; hypotheses = s.hypotheses; goal = s.goal }
