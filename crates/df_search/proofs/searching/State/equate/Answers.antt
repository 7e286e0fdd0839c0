use Rattle.std.proofs.Common.{◌++◌, ◌∷◌, [], ap, ◌∙◌}
use Rattle.df_form.specs.declared.log.Lit.{Lit}
use Rattle.df_logbuild.proofs.Added.{ok_weaker}
use Rattle.df_form.specs.Clause.{yes}
use Rattle.df_trail.specs.Trail.{decided}
use Rattle.df_search.proofs.Coming.{decides}
use Rattle.df_search.proofs.searching.State.equate.Goals as goal

pub returns-clause-equates : goal.returns-clause-equates
returns-clause-equates c =
    let state = c.equality.new.self in
    let n = c.in_ok-equality.equality in
    ok_weaker c.decide.result _ _
    (λ trail_is s rounds searches leaf.
    let has = c.in_ok-equality.ensures.makes s rounds searches leaf in
    record { all = has.searches.all; is = decides s rounds has.searches.all state has.searches.is (yes n) has.follows has.formula c.decide.new.self (trail_is ∙ ap (λ (l : Lit). state.trail.decisions.items ++ decided l ∷ []) c.yes.ensures) })
    c.decide.ensures.decides
