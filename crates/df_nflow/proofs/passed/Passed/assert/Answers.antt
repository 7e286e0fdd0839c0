use Rattle.df_nflow.proofs.Words.{◌≡◌, ℕ, List, ◌++◌, refl, sym, ap, ◌∙◌, subst, expr_of, program_of, IsOver, Stands, grows_then, is_term, part, term_of, Truths, Ledger, ledger_of, way_of, standing_of, on_ok_then, say_both, assert, assert_expr}
use Rattle.df_lang.specs.declared.ty.Ty.TheVariants as tys
use Rattle.df_meaning.specs.declared.kind.Kind.TheVariants as kinds
use Rattle.df_nledger.specs.Ledger.{saying}
use Rattle.df_nflow.proofs.Terms.{locals_are}
use Rattle.df_nflow.proofs.Standings.{standing_also, also_moves}
use Rattle.df_nflow.proofs.Passing.{is_passed}
use Rattle.df_nflow.proofs.passed.Passed.assert.Goals as goal

pub invariant_of-self : goal.invariant_of-self
invariant_of-self c = record { is_passed = is_passed c.args.self.now c.value.new.self c.value.ensures.grows }

pub invariant_of-self-2 : goal.invariant_of-self-2
invariant_of-self-2 c = record { is_passed = is_passed c.args.self.now c.assert.new.self (grows_then _ _ _ c.value.ensures.grows c.assert.ensures.grows) }

pub value-requires : goal.value-requires
value-requires c =
    let s = c.args.self.now in
    subst (λ (ns : List ℕ). IsOver s.ledger.nodes ns (expr_of c.args.condition.now)) (sym c.deref.ensures.value)
    (record { program = program_of c.args.setting.now.program.now; types = s.types.items; ty = tys.Bool; typed = c.requires; locals = locals_are s.ledger.nodes s.types.items s.terms.items s.is_passed.have_terms })

pub assert-requires : goal.assert-requires
assert-requires c =
    let s = c.args.self.now in
    let d = c.deref.ensures.value in
    is_term c.value.new.self.nodes Truths (term_of (way_of s.ledger s.terms.items).env (expr_of c.args.condition.now)) c.in_ok-formula.formula
    (subst (λ (ns : List ℕ). Stands c.value.new.self.nodes (term_of (way_of s.ledger ns).env (expr_of c.args.condition.now)) c.in_ok-formula.formula) d c.in_ok-formula.ensures.stands) (part (program_of c.args.setting.now.program.now) s.types.items tys.Bool Truths s.ledger.nodes s.terms.items (expr_of c.args.condition.now) c.requires refl (locals_are s.ledger.nodes s.types.items s.terms.items s.is_passed.have_terms)).is

pub returns-clause-moves : goal.returns-clause-moves
returns-clause-moves c =
    let s = c.args.self.now in
    let e = expr_of c.args.condition.now in
    let way = (standing_of s).way in
    let d = c.deref.ensures.value in
    let first : ledger_of c.value.new.self ≡ saying (assert_expr way e) (ledger_of s.ledger) = c.in_ok-formula.ensures.ledger ∙ (λ i. saying (assert_expr (way_of s.ledger (d i)) e) (ledger_of s.ledger)) in
    let path = ap (λ (l : Ledger). l.path) first in
    let tree = c.in_ok-formula.ensures.stands.tree_is ∙ (λ i. term_of (way_of s.ledger (d i)).env e) in
    let second = assert way.path c.args.pos kinds.Assert (term_of way.env e) in
    on_ok_then c.assert.result c.assert.ensures.ledger (λ then. also_moves (standing_of s) _ (assert_expr way e ++ second) (standing_also s.ledger c.assert.new.self s.types.items s.terms.items s.entry.items s.trail.items s.breaks.items s.returns.items (grows_then s.ledger.nodes c.value.new.self.nodes c.assert.new.self.nodes c.value.ensures.grows c.assert.ensures.grows) s.is_passed (assert_expr way e ++ second) (then ∙ (λ i. saying (assert (path i) c.args.pos kinds.Assert (tree i)) (first i)) ∙ say_both (assert_expr way e) second (ledger_of s.ledger))))

-- ---- on every way out

pub returns-clause-grows : goal.returns-clause-grows
returns-clause-grows c = grows_then _ _ _ c.value.ensures.grows c.assert.ensures.grows
