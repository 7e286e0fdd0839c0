use Rattle.df_nmeas.proofs.Words.{◌≡◌, [], List, length, sym, ap, ◌∙◌, subst, rules, arith, Expr, Chain, expr_of, guard_measure, measure_of_number, DeclaredLink, IsOver, if_ok, MakesMeasure, DeclaredMeasured}
use Rattle.df_lang.specs.declared.expr.Expr.{the_lemmas}
use Rattle.df_nenc.specs.Views.{links_in}
use Rattle.df_nmeas.proofs.Guards.{one_link, chain_left, chain_right, no_measure}
use Rattle.df_nmeas.proofs.making.+guard_measure.Goals as goal

pub comparison_measure-requires-clause-left : goal.comparison_measure-requires-clause-left
unfolding links_in
comparison_measure-requires-clause-left t c =
    let is : expr_of c.args.guard.now ≡ Chain c.in-Chain.ty (expr_of c.deref.result.now) (links_in c.in-Chain.rest.items) = search (rules, the_lemmas) in
    let one = ap (λ (xs : List DeclaredLink). links_in xs) (sym c.as_slice.ensures.value) ∙ one_link c.as_slice.result.now c.link-item.result (omega (arith, c.in-len1.len_at_least)) (omega (arith, c.in-len1.len_below)) c.link-item.is in
    chain_left c.args.nodes.now c.args.terms.now c.in-Chain.ty (expr_of c.deref.result.now) c.link-item.result.comparison c.link-item.result.pos (expr_of c.link-item.result.operand)
    (subst (IsOver c.args.nodes.now c.args.terms.now) (is ∙ ap (Chain c.in-Chain.ty (expr_of c.deref.result.now)) one) c.requires)

pub comparison_measure-requires-clause-right : goal.comparison_measure-requires-clause-right
unfolding links_in
comparison_measure-requires-clause-right t c =
    let is : expr_of c.args.guard.now ≡ Chain c.in-Chain.ty (expr_of c.deref.result.now) (links_in c.in-Chain.rest.items) = search (rules, the_lemmas) in
    let one = ap (λ (xs : List DeclaredLink). links_in xs) (sym c.as_slice.ensures.value) ∙ one_link c.as_slice.result.now c.link-item.result (omega (arith, c.in-len1.len_at_least)) (omega (arith, c.in-len1.len_below)) c.link-item.is in
    chain_right c.args.nodes.now c.args.terms.now c.in-Chain.ty (expr_of c.deref.result.now) c.link-item.result.comparison c.link-item.result.pos (expr_of c.link-item.result.operand)
    (subst (IsOver c.args.nodes.now c.args.terms.now) (is ∙ ap (Chain c.in-Chain.ty (expr_of c.deref.result.now)) one) c.requires)

pub returns-in-len1-clause-measures : goal.returns-in-len1-clause-measures
unfolding links_in
returns-in-len1-clause-measures t c =
    let is : expr_of c.args.guard.now ≡ Chain c.in-Chain.ty (expr_of c.deref.result.now) (links_in c.in-Chain.rest.items) = search (rules, the_lemmas) in
    let one = ap (λ (xs : List DeclaredLink). links_in xs) (sym c.as_slice.ensures.value) ∙ one_link c.as_slice.result.now c.link-item.result (omega (arith, c.in-len1.len_at_least)) (omega (arith, c.in-len1.len_below)) c.link-item.is in
    if_ok c.comparison_measure.result _ _ c.comparison_measure.ensures.measures
    (λ members made. subst (λ (guard : Expr). MakesMeasure c.args.nodes.now c.comparison_measure.new.nodes c.args.terms.now (measure_of_number (guard_measure guard)) members.items c.args.out.now.items c.comparison_measure.new.out.items)
    (sym (is ∙ ap (Chain c.in-Chain.ty (expr_of c.deref.result.now)) one)) (made c.link-item.result.pos))

pub returns-in-empty-clause-measures : goal.returns-in-empty-clause-measures
unfolding links_in
returns-in-empty-clause-measures t c =
    let is : expr_of c.args.guard.now ≡ Chain c.in-Chain.ty (expr_of c.in-Chain.first.value) (links_in c.in-Chain.rest.items) = search (rules, the_lemmas) in
    subst (λ (made : List DeclaredMeasured). MakesMeasure c.args.nodes.now c.args.nodes.now c.args.terms.now (measure_of_number (guard_measure (expr_of c.args.guard.now))) made c.args.out.now.items c.args.out.now.items) (sym c.new.ensures.items)
    (subst (λ (guard : Expr). MakesMeasure c.args.nodes.now c.args.nodes.now c.args.terms.now (measure_of_number (guard_measure guard)) [] c.args.out.now.items c.args.out.now.items) (sym is)
    (no_measure c.args.nodes.now c.args.terms.now c.in-Chain.ty (expr_of c.in-Chain.first.value) c.in-Chain.rest.items c.args.out.now.items (λ one. omega (arith, c.in-empty.len_below, ap (λ (xs : List DeclaredLink). length xs) c.as_slice.ensures.value))))

pub returns-in-len2-up-clause-measures : goal.returns-in-len2-up-clause-measures
unfolding links_in
returns-in-len2-up-clause-measures t c =
    let is : expr_of c.args.guard.now ≡ Chain c.in-Chain.ty (expr_of c.in-Chain.first.value) (links_in c.in-Chain.rest.items) = search (rules, the_lemmas) in
    subst (λ (made : List DeclaredMeasured). MakesMeasure c.args.nodes.now c.args.nodes.now c.args.terms.now (measure_of_number (guard_measure (expr_of c.args.guard.now))) made c.args.out.now.items c.args.out.now.items) (sym c.new-in-len2-up.ensures.items)
    (subst (λ (guard : Expr). MakesMeasure c.args.nodes.now c.args.nodes.now c.args.terms.now (measure_of_number (guard_measure guard)) [] c.args.out.now.items c.args.out.now.items) (sym is)
    (no_measure c.args.nodes.now c.args.terms.now c.in-Chain.ty (expr_of c.in-Chain.first.value) c.in-Chain.rest.items c.args.out.now.items (λ one. omega (arith, c.in-len2-up.len_at_least, ap (λ (xs : List DeclaredLink). length xs) c.as_slice.ensures.value))))
