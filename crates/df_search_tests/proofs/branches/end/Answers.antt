use Rattle.std.proofs.Common.{List, [], sym, subst}
use Rattle.df_branch.specs.Place.{IsPlace}
use Rattle.df_form.specs.SequentView.{sequent_of}
use Rattle.df_clause.specs.GroundClause.{GroundClause}
use Rattle.df_trig.specs.Rounds.{Instantiates}
use Rattle.df_search_tests.proofs.branches.end.Goals as goal

-- the clauses are those of `as_slice`
pub leaf_at-requires : goal.leaf_at-requires
leaf_at-requires c =
    let s = sequent_of c.args.sequent.now in
    let nodes = c.in-Ok.ground.nodes in
    let is_ground = c.instances_are_ground.ensures s 0 c.in-Ok.ground c.args.sequent.now.is_sequent (subst (Instantiates s 0) c.in-Ok.is c.instances.ensures.set) in
    subst (λ (clauses : List GroundClause). IsPlace nodes clauses nodes []) (sym c.as_slice-clauses.ensures) (c.ground_sets_are_places.ensures s c.in-Ok.ground c.args.sequent.now.is_sequent is_ground)
