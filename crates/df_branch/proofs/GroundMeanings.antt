-- The ground set of a sequent has what its nodes mean.
use Rattle.df_form.specs.Sequent.{Sequent}
use Rattle.df_clause.specs.declared.ground.Ground.{Ground}
use Rattle.df_clause.specs.GroundView.{IsGround}
use Rattle.df_branch.specs.Place.{HaveMeanings}

pub have_meanings : (s : Sequent) (g : Ground) → IsGround s g → HaveMeanings g.nodes g.clauses
have_meanings s g is = record { connectives = is.connectives }
