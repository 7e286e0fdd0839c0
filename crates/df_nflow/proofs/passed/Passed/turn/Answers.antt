use Rattle.df_nflow.proofs.Words.{◌≡◌, List, ◌++◌, map, ap, ◌∙◌, append_assoc, expr_of, loop_measure, clause_of, program_of, grows_not, grows_then, decreases_in, measured_in, measured, are_below, ledger_of, way_of, standing_of, measured_same, on_ok_then, say_both, Said, assert, assert_clauses, assert_measure, at_clause}
use Rattle.df_meaning.specs.declared.kind.Kind.TheVariants as kinds
use Rattle.df_nledger.specs.Ledger.{saying}
use Rattle.df_nflow.proofs.Passing.{says, locals, way_stays, is_passed}
use Rattle.df_nledger.proofs.Growing.{measured_stay}
use Rattle.df_nflow.proofs.passed.Passed.turn.Goals as goal

pub invariant_of-self : goal.invariant_of-self
invariant_of-self c = record { is_passed = is_passed c.args.self.now c.assert_clauses.new.self c.assert_clauses.ensures.grows }

pub invariant_of-self-in-Break-branch-2 : goal.invariant_of-self-in-Break-branch-2
invariant_of-self-in-Break-branch-2 c = record { is_passed = is_passed c.args.self.now c.loop_measure.new.self (grows_then _ _ _ c.assert_clauses.ensures.grows c.loop_measure.ensures.grows) }

pub invariant_of-self-2 : goal.invariant_of-self-2
invariant_of-self-2 c = record { is_passed = is_passed c.args.self.now c.assert_below.new.self (grows_then _ _ _ (grows_then _ _ _ c.assert_clauses.ensures.grows c.loop_measure.ensures.grows) c.assert_below.ensures.grows) }

pub assert_below-requires-clause-before : goal.assert_below-requires-clause-before
assert_below-requires-clause-before c = measured_stay _ _ (grows_then _ _ _ c.assert_clauses.ensures.grows c.loop_measure.ensures.grows) c.args.before.now c.requires.before

pub assert_clauses-requires : goal.assert_clauses-requires
assert_clauses-requires c =
    let s = c.args.self.now in
    record { program = program_of c.args.setting.now.program.now; types = s.types.items; typed = c.requires.invariants; locals = locals s s.ledger (grows_not s.ledger.nodes) _ c.deref.ensures.value }

pub loop_measure-requires : goal.loop_measure-requires
loop_measure-requires c =
    let s = c.args.self.now in
    record { program = program_of c.args.setting.now.program.now; types = s.types.items; guard_typed = c.requires.guard; typed = c.requires.measures; locals = locals s c.assert_clauses.new.self c.assert_clauses.ensures.grows _ c.deref-2.ensures.value }

pub returns-clause-said : goal.returns-clause-said
returns-clause-said c =
    let s = c.args.self.now in
    let l1 = c.assert_clauses.new.self in
    let l2 = c.loop_measure.new.self in
    let way = (standing_of s).way in
    let clauses = map clause_of c.args.invariants.now in
    let measures = loop_measure (expr_of c.args.guard.now) (decreases_in c.args.decreases.now) in
    let kept = assert_clauses at_clause kinds.Turn way clauses in
    let asked = assert_measure way measures in
    let before = measured_in s.ledger.nodes c.args.before.now in
    let less = assert way.path c.args.pos kinds.Decreases (are_below (measured way.env measures) before) in
    let g2 = grows_then s.ledger.nodes l1.nodes l2.nodes c.assert_clauses.ensures.grows c.loop_measure.ensures.grows in
    let d = c.deref.ensures.value in
    let e1 : ledger_of l1 ≡ saying kept (ledger_of s.ledger) = c.in_ok-assert_clauses.ensures.ledger ∙ (λ i. saying (assert_clauses at_clause kinds.Turn (way_of s.ledger (d i)) clauses) (ledger_of s.ledger)) in
    let same = way_stays s l1 c.assert_clauses.ensures.grows c.deref-2.result.now kept c.deref-2.ensures.value e1 in
    let e2 : ledger_of l2 ≡ saying (kept ++ asked) (ledger_of s.ledger) = c.in_ok-now.ensures.ledger ∙ (λ i. saying (assert_measure (same i) measures) (e1 i)) ∙ say_both kept asked (ledger_of s.ledger) in
    let now : measured_in l2.nodes c.deref-3.result.now ≡ measured way.env measures = ap (measured_in l2.nodes) c.deref-3.ensures.value ∙ c.in_ok-now.ensures.measured ∙ (λ i. measured (same i).env measures) in
    let then = measured_same s.ledger.nodes l2.nodes g2 c.args.before.now c.requires.before in
    on_ok_then c.assert_below.result c.assert_below.ensures.ledger (λ e3. says s c.assert_below.new.self (grows_then _ _ _ g2 c.assert_below.ensures.grows) (kept ++ (asked ++ less))
    (e3 ∙ (λ i. saying (assert (e2 i).path c.args.pos kinds.Decreases (are_below (now i) (then i))) (e2 i)) ∙ say_both (kept ++ asked) less (ledger_of s.ledger) ∙ ap (λ (said : List Said). saying said (ledger_of s.ledger)) (append_assoc kept asked less)))

-- ---- on every way out

pub returns-in_err-now-clause-grows : goal.returns-in_err-now-clause-grows
returns-in_err-now-clause-grows c = grows_then _ _ _ c.assert_clauses.ensures.grows c.loop_measure.ensures.grows

pub returns-clause-grows : goal.returns-clause-grows
returns-clause-grows c = grows_then _ _ _ (grows_then _ _ _ c.assert_clauses.ensures.grows c.loop_measure.ensures.grows) c.assert_below.ensures.grows
