use Rattle.std.proofs.Common.{[], ◌∷◌, ◌∙◌, subst}
use Rattle.df_form.specs.Clause.{Clause}
use Rattle.df_logbuild.proofs.Added.{ok_weaker}
use Rattle.df_search.specs.Moves.{IsBound}
use Rattle.df_search.proofs.Binding.{defined_by}
use Rattle.df_search.proofs.searching.State.define.Goals as goal

pub returns-clause-defines : goal.returns-clause-defines
returns-clause-defines c =
    let old = c.args.self.now in
    let n = c.args.equality in
    let first = c.bind.new.self in
    let second = c.bind-2.new.self in
    let new = c.bind-3.new.self in
    let one = subst (λ (ls : Clause). IsBound old n 0 ls first) (c.in_ok-first.ensures.items ∙ (λ i. c.no.ensures i ∷ c.yes.ensures i ∷ [])) c.in_ok-bind.ensures.binds in
    let two = subst (λ (ls : Clause). IsBound first n 1 ls second) (c.in_ok-second.ensures.items ∙ (λ i. c.no-2.ensures i ∷ c.yes-2.ensures i ∷ [])) c.in_ok-bind-2.ensures.binds in
    ok_weaker c.bind-3.result _ _
    (λ last. defined_by old first second new n c.args.up c.args.down one two (subst (λ (ls : Clause). IsBound second n 2 ls new) (c.in_ok-third.ensures.items ∙ (λ i. c.yes-3.ensures i ∷ c.no-3.ensures i ∷ c.no-4.ensures i ∷ [])) last))
    c.bind-3.ensures.binds
