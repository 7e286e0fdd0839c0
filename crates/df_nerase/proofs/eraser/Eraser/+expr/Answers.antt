use Rattle.std.proofs.Common.{◌≡◌, to_z, of_z, IfOk, arith, rules, map, sym, ap, ◌∙◌, subst}
use Rattle.std.proofs.lemmas.Int.{to_z-of_z}
use Rattle.std.specs.Int.{w128}
use Rattle.df_lang.specs.Expr as source
use Rattle.df_lang.specs.Expr.{Expr}
use Rattle.df_lang.specs.ExprView as view
use Rattle.df_lang.specs.ExprView.{expr_of}
use Rattle.df_lang.specs.declared.expr.Expr.{the_lemmas}
use Rattle.df_nplain.specs.Expr as made
use Rattle.df_nplain.specs.ExprView as plain
use Rattle.df_nerase.specs.Views.{addend_of, factor_of, member_of, link_of}
use Rattle.df_nerase.specs.Eraser.{program_in}
use Rattle.df_nerase.specs.Erasing.{erase_expr}
use Rattle.df_nerase.proofs.Erased.{erase_addend, erase_factor, erase_member, erase_link, all_addends, all_factors, all_members, all_links}
use Rattle.df_nerase.proofs.MadeViews.{made_number, made_truth, made_character, made_local, made_negate, made_not, made_sum, made_product, made_junction, made_implies, made_iff, made_chain, made_as, made_addend, made_factor, made_link, made_more}
use Rattle.df_nerase.proofs.SourceViews.{addend_operator, addend_operand, factor_operator, factor_operand, member_operand, link_comparison, link_operand}
use Rattle.df_nerase.proofs.eraser.Eraser.+expr.Goals as goal

pub addends-returns : goal.addends-returns
addends-returns t c = all_addends addend_of (program_in c.args.self.now) c.args.rest.now.items c.loop-addend.addend-index (map plain.addend_of c.loop-addend.erased.items) c.loop-addend.invariant (omega arith)

pub factors-returns : goal.factors-returns
factors-returns t c = all_factors factor_of (program_in c.args.self.now) c.args.rest.now.items c.loop-factor.factor-index (map plain.factor_of c.loop-factor.erased.items) c.loop-factor.invariant (omega arith)

pub members-returns : goal.members-returns
members-returns t c = all_members member_of (program_in c.args.self.now) c.args.rest.now.items c.loop-member.member-index (map plain.expr_of c.loop-member.erased.items) c.loop-member.invariant (omega arith)

pub links-returns : goal.links-returns
links-returns t c = all_links link_of (program_in c.args.self.now) c.args.rest.now.items c.loop-link.link-index (map plain.link_of c.loop-link.erased.items) c.loop-link.invariant (omega arith)

-- ---- one form after another

pub expr-returns-in-Number : goal.expr-returns-in-Number
expr-returns-in-Number t c =
    let p = program_in c.args.self.now in
    let is : expr_of c.args.e.now ≡ source.Number c.in-Number.ty c.in-Number.value c.in-Number.pos = search (rules, the_lemmas) in
    let same : to_z w128 (of_z w128 c.in-Number.value) ≡ c.in-Number.value = search (rules, to_z-of_z) in
    made_number (to_z w128 (of_z w128 c.in-Number.value)) ∙ ap made.Number same ∙ ap (erase_expr p) (sym is)

pub expr-returns-in-Truth : goal.expr-returns-in-Truth
expr-returns-in-Truth t c =
    let p = program_in c.args.self.now in
    let is : expr_of c.args.e.now ≡ source.Truth c.in-Truth.value c.in-Truth.pos = search (rules, the_lemmas) in
    made_truth c.in-Truth.value ∙ ap (erase_expr p) (sym is)

pub expr-returns-in-Character : goal.expr-returns-in-Character
expr-returns-in-Character t c =
    let p = program_in c.args.self.now in
    let is : expr_of c.args.e.now ≡ source.Character c.in-Character.code c.in-Character.pos = search (rules, the_lemmas) in
    made_character c.in-Character.code ∙ ap (erase_expr p) (sym is)

pub expr-returns-in-Local : goal.expr-returns-in-Local
expr-returns-in-Local t c =
    let p = program_in c.args.self.now in
    let is : expr_of c.args.e.now ≡ source.Local c.in-Local.local c.in-Local.name c.in-Local.pos = search (rules, the_lemmas) in
    made_local c.in-Local.local ∙ ap (erase_expr p) (sym is)

pub expr-returns-in_ok-operand-in-Negate : goal.expr-returns-in_ok-operand-in-Negate
expr-returns-in_ok-operand-in-Negate t c =
    let p = program_in c.args.self.now in
    let is : expr_of c.args.e.now ≡ source.Negate c.in-Negate.ty c.in-Negate.pos (expr_of c.deref.result.now) = search (rules, the_lemmas) in
    made_negate c.range.result c.in_ok-operand-in-Negate.operand ∙ (λ i. made.Negate (c.range.ensures i) (c.in_ok-operand-in-Negate.ensures i)) ∙ ap (erase_expr p) (sym is)

pub expr-returns-in_ok-boxed-in-Not : goal.expr-returns-in_ok-boxed-in-Not
expr-returns-in_ok-boxed-in-Not t c =
    let p = program_in c.args.self.now in
    let is : expr_of c.args.e.now ≡ source.Not c.in-Not.pos (expr_of c.deref-in-Not.result.now) = search (rules, the_lemmas) in
    made_not c.in_ok-boxed-in-Not.field-0 ∙ ap made.Not c.in_ok-boxed-in-Not.ensures ∙ ap (erase_expr p) (sym is)

pub expr-returns-in_ok-rest-in-Sum : goal.expr-returns-in_ok-rest-in-Sum
expr-returns-in_ok-rest-in-Sum t c =
    let p = program_in c.args.self.now in
    let is : expr_of c.args.e.now ≡ source.Sum c.in-Sum.ty (expr_of c.deref-in-Sum.result.now) (view.addends_of (map addend_of c.in-Sum.rest.items)) = search (rules, the_lemmas) in
    made_sum c.range-in-Sum.result c.in_ok-first-in-Sum.first c.in_ok-rest-in-Sum.rest ∙ (λ i. made.Sum (c.range-in-Sum.ensures i) (c.in_ok-first-in-Sum.ensures i) (c.in_ok-rest-in-Sum.ensures i)) ∙ ap (erase_expr p) (sym is)

pub expr-returns-in_ok-rest-in-Product : goal.expr-returns-in_ok-rest-in-Product
expr-returns-in_ok-rest-in-Product t c =
    let p = program_in c.args.self.now in
    let is : expr_of c.args.e.now ≡ source.Product c.in-Product.ty (expr_of c.deref-in-Product.result.now) (view.factors_of (map factor_of c.in-Product.rest.items)) = search (rules, the_lemmas) in
    made_product c.range-in-Product.result c.in_ok-first-in-Product.first c.in_ok-rest-in-Product.rest ∙ (λ i. made.Product (c.range-in-Product.ensures i) (c.in_ok-first-in-Product.ensures i) (c.in_ok-rest-in-Product.ensures i)) ∙ ap (erase_expr p) (sym is)

pub expr-returns-in_ok-rest-in-Junction : goal.expr-returns-in_ok-rest-in-Junction
expr-returns-in_ok-rest-in-Junction t c =
    let p = program_in c.args.self.now in
    let is : expr_of c.args.e.now ≡ source.Junction c.in-Junction.junction (expr_of c.deref-in-Junction.result.now) (view.members_of (map member_of c.in-Junction.rest.items)) = search (rules, the_lemmas) in
    made_junction c.in-Junction.junction c.in_ok-first-in-Junction.first c.in_ok-rest-in-Junction.rest ∙ (λ i. made.Junction c.in-Junction.junction (c.in_ok-first-in-Junction.ensures i) (c.in_ok-rest-in-Junction.ensures i)) ∙ ap (erase_expr p) (sym is)

pub expr-returns-in_ok-rest-in-Implies : goal.expr-returns-in_ok-rest-in-Implies
expr-returns-in_ok-rest-in-Implies t c =
    let p = program_in c.args.self.now in
    let is : expr_of c.args.e.now ≡ source.Implies c.in-Implies.arrow (expr_of c.deref-in-Implies.result.now) (view.members_of (map member_of c.in-Implies.rest.items)) = search (rules, the_lemmas) in
    made_implies c.in_ok-first-in-Implies.first c.in_ok-rest-in-Implies.rest ∙ (λ i. made.Implies (c.in_ok-first-in-Implies.ensures i) (c.in_ok-rest-in-Implies.ensures i)) ∙ ap (erase_expr p) (sym is)

pub expr-returns-in_ok-rest-in-Iff : goal.expr-returns-in_ok-rest-in-Iff
expr-returns-in_ok-rest-in-Iff t c =
    let p = program_in c.args.self.now in
    let is : expr_of c.args.e.now ≡ source.Iff (expr_of c.deref-in-Iff.result.now) (view.members_of (map member_of c.in-Iff.rest.items)) = search (rules, the_lemmas) in
    made_iff c.in_ok-first-in-Iff.first c.in_ok-rest-in-Iff.rest ∙ (λ i. made.Iff (c.in_ok-first-in-Iff.ensures i) (c.in_ok-rest-in-Iff.ensures i)) ∙ ap (erase_expr p) (sym is)

pub expr-returns-in_ok-rest-in-Chain : goal.expr-returns-in_ok-rest-in-Chain
expr-returns-in_ok-rest-in-Chain t c =
    let p = program_in c.args.self.now in
    let is : expr_of c.args.e.now ≡ source.Chain c.in-Chain.ty (expr_of c.deref-in-Chain.result.now) (view.links_of (map link_of c.in-Chain.rest.items)) = search (rules, the_lemmas) in
    made_chain c.in_ok-first-in-Chain.first c.in_ok-rest-in-Chain.rest ∙ (λ i. made.Chain (c.in_ok-first-in-Chain.ensures i) (c.in_ok-rest-in-Chain.ensures i)) ∙ ap (erase_expr p) (sym is)

pub expr-returns-in_ok-operand-in-As : goal.expr-returns-in_ok-operand-in-As
expr-returns-in_ok-operand-in-As t c =
    let p = program_in c.args.self.now in
    let is : expr_of c.args.e.now ≡ source.As c.in-As.source c.in-As.target c.in-As.pos (expr_of c.deref-in-As.result.now) = search (rules, the_lemmas) in
    made_as c.kind.result c.kind-in-As.result c.in_ok-operand-in-As.operand ∙ (λ i. made.As (c.kind.ensures i) (c.kind-in-As.ensures i) (c.in_ok-operand-in-As.ensures i)) ∙ ap (erase_expr p) (sym is)

pub expr-returns-in-Convert : goal.expr-returns-in-Convert
expr-returns-in-Convert t c =
    let p = program_in c.args.self.now in
    let is : expr_of c.args.e.now ≡ source.Convert c.in-Convert.source c.in-Convert.target c.in-Convert.pos (expr_of c.deref-in-Convert.result.now) = search (rules, the_lemmas) in
    subst (λ (e : Expr). IfOk c.expr.result (λ value. plain.expr_of value ≡ erase_expr p e)) (sym is) c.expr.ensures

-- ---- one part more

pub addends-loop-addend-preserved : goal.addends-loop-addend-preserved
addends-loop-addend-preserved t c =
    let p = program_in c.args.self.now in
    let l = c.loop-addend in
    let x = c.addend-item.result in
    let operand = c.in_ok-operand.ensures ∙ ap (erase_expr p) (sym (addend_operand x)) in
    made_more addend_of plain.addend_of (erase_addend p) c.args.rest.now.items l.addend-index x (omega arith) (search rules) l.erased.items c.push.new.self.items _ (made_addend _ ∙ (λ i. record { operator = sym (addend_operator x) i; operand = operand i })) c.in_ok-push.ensures.items l.invariant

pub factors-loop-factor-preserved : goal.factors-loop-factor-preserved
factors-loop-factor-preserved t c =
    let p = program_in c.args.self.now in
    let l = c.loop-factor in
    let x = c.factor-item.result in
    let operand = c.in_ok-operand.ensures ∙ ap (erase_expr p) (sym (factor_operand x)) in
    made_more factor_of plain.factor_of (erase_factor p) c.args.rest.now.items l.factor-index x (omega arith) (search rules) l.erased.items c.push.new.self.items _ (made_factor _ ∙ (λ i. record { operator = sym (factor_operator x) i; operand = operand i })) c.in_ok-push.ensures.items l.invariant

pub links-loop-link-preserved : goal.links-loop-link-preserved
links-loop-link-preserved t c =
    let p = program_in c.args.self.now in
    let l = c.loop-link in
    let x = c.link-item.result in
    let operand = c.in_ok-operand.ensures ∙ ap (erase_expr p) (sym (link_operand x)) in
    made_more link_of plain.link_of (erase_link p) c.args.rest.now.items l.link-index x (omega arith) (search rules) l.erased.items c.push.new.self.items _ (made_link _ ∙ (λ i. record { comparison = sym (link_comparison x) i; operand = operand i })) c.in_ok-push.ensures.items l.invariant

pub members-loop-member-preserved : goal.members-loop-member-preserved
members-loop-member-preserved t c =
    let p = program_in c.args.self.now in
    let l = c.loop-member in
    let x = c.member-item.result in
    made_more member_of plain.expr_of (erase_member p) c.args.rest.now.items l.member-index x (omega arith) (search rules) l.erased.items c.push.new.self.items c.in_ok-operand.operand (c.in_ok-operand.ensures ∙ ap (erase_expr p) (sym (member_operand x))) c.in_ok-push.ensures.items l.invariant
