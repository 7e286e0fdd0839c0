use Rattle.df_nflow.proofs.Words.{◌≡◌, ℕ, List, sym, ap, ◌∙◌, subst, expr_of, Operand, Value, operand_of, program_of, IsOver, ledger_of, way_of, standing_of, also, is_operand_over, assert_expr, assert_operand, grows_not}
use Rattle.df_nledger.specs.Ledger.{saying}
use Rattle.df_nflow.proofs.Terms.{locals_are}
use Rattle.df_nflow.proofs.Standings.{standing_also}
use Rattle.df_nflow.proofs.Passing.{is_passed}
use Rattle.df_nflow.proofs.passed.Passed.operand.Goals as goal

pub invariant_of-self : goal.invariant_of-self
invariant_of-self c = record { is_passed = is_passed c.args.self.now c.value.new.self c.value.ensures.grows }

pub value-requires : goal.value-requires
value-requires c =
    let s = c.args.self.now in
    let is : operand_of c.args.operand.now ≡ Value c.in-Value.ty (expr_of c.in-Value.value) = ap operand_of c.in-Value.is in
    subst (λ (ns : List ℕ). IsOver s.ledger.nodes ns (expr_of c.in-Value.value)) (sym c.deref.ensures.value)
    (record { program = program_of c.args.setting.now.program.now; types = s.types.items; ty = c.in-Value.ty; typed = sym (ap (is_operand_over (program_of c.args.setting.now.program.now) s.types.items) is) ∙ c.requires; locals = locals_are s.ledger.nodes s.types.items s.terms.items s.is_passed.have_terms })

pub returns-in_ok-value-in-Value-clause-said : goal.returns-in_ok-value-in-Value-clause-said
returns-in_ok-value-in-Value-clause-said c =
    let s = c.args.self.now in
    let e = expr_of c.in-Value.value in
    let d = c.deref.ensures.value in
    let is : operand_of c.args.operand.now ≡ Value c.in-Value.ty e = ap operand_of c.in-Value.is in
    standing_also s.ledger c.value.new.self s.types.items s.terms.items s.entry.items s.trail.items s.breaks.items s.returns.items c.value.ensures.grows s.is_passed (assert_expr (standing_of s).way e) (c.in_ok-value-in-Value.ensures.ledger ∙ (λ i. saying (assert_expr (way_of s.ledger (d i)) e) (ledger_of s.ledger)))
    ∙ ap (λ (o : Operand). also (assert_operand (standing_of s).way o) (standing_of s)) (sym is)

-- ---- on every way out

pub returns-in-Text-clause-grows : goal.returns-in-Text-clause-grows
returns-in-Text-clause-grows c = grows_not c.args.self.now.ledger.nodes
