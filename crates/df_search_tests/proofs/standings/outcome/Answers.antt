use Rattle.std.proofs.Common.{refl, ap, ◌∙◌, subst}
use Rattle.std.specs.List.{list_all}
use Rattle.df_form.specs.Clause.{are_literals}
use Rattle.df_form.specs.SequentView.{sequent_of}
use Rattle.df_clause.specs.GroundClause.{GroundClause}
use Rattle.df_trig.specs.Rounds.{Instantiates}
use Rattle.df_search_tests.proofs.standings.outcome.Goals as goal

-- the ground set of a sequent is a place

pub standing_at-requires-clause-table : goal.standing_at-requires-clause-table
standing_at-requires-clause-table c =
    let s = sequent_of c.args.sequent.now in
    let is_ground = c.instances_are_ground.ensures s 0 c.in-Ok.ground c.args.sequent.now.is_sequent (subst (Instantiates s 0) c.in-Ok.is c.instances.ensures.set) in
    (c.ground_sets_are_places.ensures s c.in-Ok.ground c.args.sequent.now.is_sequent is_ground).table

pub standing_at-requires-clause-formulas : goal.standing_at-requires-clause-formulas
standing_at-requires-clause-formulas c = refl

-- the clauses are those of `as_slice`
pub standing_at-requires-clause-clause_formulas : goal.standing_at-requires-clause-clause_formulas
standing_at-requires-clause-clause_formulas c =
    let s = sequent_of c.args.sequent.now in
    let is_ground = c.instances_are_ground.ensures s 0 c.in-Ok.ground c.args.sequent.now.is_sequent (subst (Instantiates s 0) c.in-Ok.is c.instances.ensures.set) in
    let place = c.ground_sets_are_places.ensures s c.in-Ok.ground c.args.sequent.now.is_sequent is_ground in
    ap (list_all (λ (clause : GroundClause). are_literals c.in-Ok.ground.nodes clause.literals)) c.as_slice-clauses.ensures ∙ place.clause_formulas
