use Rattle.std.proofs.Common.{rules, inl, inr}
use Rattle.df_lang.specs.declared.expr.Expr.TheFolds as folds
use Rattle.df_lang.specs.declared.expr.Expr.TheViews as views
use Rattle.df_lang.specs.ExprView.{expr_of}
use Rattle.df_nghost.specs.mirror.Parts.{addends_in, factors_in, members_in, links_in}
use Rattle.df_nghost.specs.mirror.Known.{assigned_of}
use Rattle.df_nghost.proofs.Finds.{addend_goes, factor_goes, member_goes, link_goes, sum_found, product_found, chain_found, junction_found, implication_found, equivalence_found}
use Rattle.df_nghost.proofs.reads.+reads.Goals as goal

pub first_of_addends-loop-addend-preserved : goal.first_of_addends-loop-addend-preserved
first_of_addends-loop-addend-preserved t c =
    addend_goes (assigned_of c.args.assigned.now) c.loop-addend.first _ _ _ c.loop-addend.addend-index c.addend-item.result c.loop-addend-test.true c.addend-item.is c.first_use-first.ensures c.loop-addend.invariant

pub first_of_factors-loop-factor-preserved : goal.first_of_factors-loop-factor-preserved
first_of_factors-loop-factor-preserved t c =
    factor_goes (assigned_of c.args.assigned.now) c.loop-factor.first _ _ _ c.loop-factor.factor-index c.factor-item.result c.loop-factor-test.true c.factor-item.is c.first_use-first.ensures c.loop-factor.invariant

pub first_of_members-loop-member-preserved : goal.first_of_members-loop-member-preserved
first_of_members-loop-member-preserved t c =
    member_goes (assigned_of c.args.assigned.now) c.loop-member.first _ _ _ c.loop-member.member-index c.member-item.result c.loop-member-test.true c.member-item.is c.first_use-first.ensures c.loop-member.invariant

pub first_of_links-loop-link-preserved : goal.first_of_links-loop-link-preserved
first_of_links-loop-link-preserved t c =
    link_goes (assigned_of c.args.assigned.now) c.loop-link.first _ _ _ c.loop-link.link-index c.link-item.result c.loop-link-test.true c.link-item.is c.first_use-first.ensures c.loop-link.invariant

pub first_use-returns-in-Sum : goal.first_use-returns-in-Sum
first_use-returns-in-Sum t c =
    sum_found (assigned_of c.args.assigned.now) c.args.first c.first_use-first.result c.first_of_addends.result c.in-Sum.ty (expr_of c.args.expr.now) (expr_of c.in-Sum.left.value) (addends_in c.in-Sum.rest.items)
    (search (rules, folds.the_lemmas, views.the_lemmas)) (search rules) (search rules)

pub first_use-returns-in-Product : goal.first_use-returns-in-Product
first_use-returns-in-Product t c =
    product_found (assigned_of c.args.assigned.now) c.args.first c.first_use-first-in-Product.result c.first_of_factors.result c.in-Product.ty (expr_of c.args.expr.now) (expr_of c.in-Product.left.value) (factors_in c.in-Product.rest.items)
    (search (rules, folds.the_lemmas, views.the_lemmas)) (search rules) (search rules)

pub first_use-returns-in-Chain : goal.first_use-returns-in-Chain
first_use-returns-in-Chain t c =
    chain_found (assigned_of c.args.assigned.now) c.args.first c.first_use-first-in-Chain.result c.first_of_links.result c.in-Chain.ty (expr_of c.args.expr.now) (expr_of c.in-Chain.left.value) (links_in c.in-Chain.rest.items)
    (search (rules, folds.the_lemmas, views.the_lemmas)) (search rules) (search rules)

pub first_use-returns-in-Junction : goal.first_use-returns-in-Junction
first_use-returns-in-Junction t c =
    let a = assigned_of c.args.assigned.now in
    let e = expr_of c.args.expr.now in
    let left = expr_of c.in-Junction.left.value in
    let rest = members_in c.in-Junction.rest.items in
    elim c.in-Junction.is [
      | inl p ↦ let is = p.1 in
          junction_found a c.args.first c.first_use-first-in-Junction.result c.first_of_members.result p.0 e left rest (search (rules, folds.the_lemmas, views.the_lemmas)) (search rules) (search rules)
      | inr q ↦ elim q [
        | inl p ↦ let is = p.1 in
            implication_found a c.args.first c.first_use-first-in-Junction.result c.first_of_members.result p.0 e left rest (search (rules, folds.the_lemmas, views.the_lemmas)) (search rules) (search rules)
        | inr is ↦ equivalence_found a c.args.first c.first_use-first-in-Junction.result c.first_of_members.result e left rest (search (rules, folds.the_lemmas, views.the_lemmas)) (search rules) (search rules)
      ]
    ]
