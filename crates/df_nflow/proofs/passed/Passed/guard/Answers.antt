use Rattle.df_nflow.proofs.Words.{ℕ, List, refl, sym, ap, ◌∙◌, subst, expr_of, program_of, IsOver, is_term, part, if_ok, term_of, Truths, ledger_of, way_of, standing_of, on_ok_then, assert_expr}
use Rattle.df_lang.specs.declared.ty.Ty.TheVariants as tys
use Rattle.df_nledger.specs.Ledger.{saying}
use Rattle.df_nflow.proofs.Terms.{locals_are}
use Rattle.df_nflow.proofs.Standings.{standing_also}
use Rattle.df_nflow.proofs.Passing.{is_passed}
use Rattle.df_nflow.proofs.passed.Passed.guard.Goals as goal

pub invariant_of-self : goal.invariant_of-self
invariant_of-self c = record { is_passed = is_passed c.args.self.now c.value.new.self c.value.ensures.grows }

pub value-requires : goal.value-requires
value-requires c =
    let s = c.args.self.now in
    subst (λ (ns : List ℕ). IsOver s.ledger.nodes ns (expr_of c.args.guard.now)) (sym c.deref.ensures.value)
    (record { program = program_of c.args.setting.now.program.now; types = s.types.items; ty = tys.Bool; typed = c.requires; locals = locals_are s.ledger.nodes s.types.items s.terms.items s.is_passed.have_terms })

pub returns-clause-said : goal.returns-clause-said
returns-clause-said c =
    let s = c.args.self.now in
    let e = expr_of c.args.guard.now in
    let d = c.deref.ensures.value in
    on_ok_then c.value.result c.value.ensures.ledger (λ then. standing_also s.ledger c.value.new.self s.types.items s.terms.items s.entry.items s.trail.items s.breaks.items s.returns.items c.value.ensures.grows s.is_passed (assert_expr (standing_of s).way e) (then ∙ (λ i. saying (assert_expr (way_of s.ledger (d i)) e) (ledger_of s.ledger))))

pub returns-clause-formula : goal.returns-clause-formula
returns-clause-formula c =
    let s = c.args.self.now in
    let e = expr_of c.args.guard.now in
    let tree = ap (λ (ns : List ℕ). term_of (way_of s.ledger ns).env e) c.deref.ensures.value in
    if_ok c.value.result _ _ c.value.ensures.stands (λ n stands. is_term c.value.new.self.nodes Truths (term_of (way_of s.ledger s.terms.items).env e) n (record { below = stands.below; tree_is = stands.tree_is ∙ tree }) (part (program_of c.args.setting.now.program.now) s.types.items tys.Bool Truths s.ledger.nodes s.terms.items (expr_of c.args.guard.now) c.requires refl (locals_are s.ledger.nodes s.types.items s.terms.items s.is_passed.have_terms)).is)
