-- Laws of places.
use Rattle.std.specs.Prelude.{[]}
use Rattle.df_form.specs.Sequent.{Sequent, IsSequent}
use Rattle.df_clause.specs.declared.ground.Ground.{Ground}
use Rattle.df_clause.specs.GroundView.{IsGround}
use Rattle.df_branch.specs.Place.{IsPlace}

-- the ground set of a sequent, with no branch yet, is a place of a search
abbrev pub GroundSetsArePlaces : Type 0
GroundSetsArePlaces = (s : Sequent) (g : Ground) → IsSequent s → IsGround s g → IsPlace g.nodes g.clauses g.nodes []
