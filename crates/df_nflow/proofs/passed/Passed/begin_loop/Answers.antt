use Rattle.df_nflow.proofs.Words.{◌≡◌, List, map, sym, ap, ◌∙◌, subst, expr_of, loop_measure, clause_of, program_of, Ty, AreLocals, trees_in, grows_not, stays, decreases_in, assert_measure, measured, ledger_of, way_of, standing_of, Standing, also, changed_in, term_stays, Truths, grows_then}
use Rattle.df_nledger.specs.Ledger.{saying}
use Rattle.df_nflow.proofs.Looping.{heads, passes_by}
use Rattle.df_nflow.proofs.Passing.{gone_on, says, locals, is_passed}
use Rattle.df_nflow.proofs.passed.Passed.begin_loop.Goals as goal

pub returns-clause-formula : goal.returns-clause-formula
returns-clause-formula c = term_stays Truths c.enter_branch.new.self.ledger.nodes c.loop_measure.new.self.nodes c.in_ok-past.past c.loop_measure.ensures.grows c.in_ok-past.ensures.formula

pub invariant_of-self : goal.invariant_of-self
invariant_of-self c = record { is_passed = is_passed c.enter_branch.new.self c.loop_measure.new.self c.loop_measure.ensures.grows }

pub loop_measure-requires : goal.loop_measure-requires
loop_measure-requires c =
    let s = c.enter_branch.new.self in
    let types = ap (λ (a : Standing). a.types) c.in_ok-past.ensures.standing ∙ c.in_ok-any_turn.ensures.moves.types in
    record {
      program = program_of c.args.setting.now.program.now;
      types = c.args.self.now.types.items;
      guard_typed = c.requires.guard;
      typed = c.requires.measures;
      locals = subst (λ (ts : List Ty). AreLocals s.ledger.nodes ts c.deref.result.now) types (locals s s.ledger (grows_not s.ledger.nodes) _ c.deref.ensures.value);
    }

-- with the measure's members said too
measure_said : (c : goal.In_ok-before) → gone_on c.enter_branch.new.self c.loop_measure.new.self c.loop_measure.ensures.grows ≡ also (assert_measure (standing_of c.enter_branch.new.self).way (loop_measure (expr_of c.args.guard.now) (decreases_in c.args.decreases.now))) (standing_of c.enter_branch.new.self)
measure_said c =
    let s = c.enter_branch.new.self in
    let measures = loop_measure (expr_of c.args.guard.now) (decreases_in c.args.decreases.now) in
    let d = c.deref.ensures.value in
    says s c.loop_measure.new.self c.loop_measure.ensures.grows (assert_measure (standing_of s).way measures) (c.in_ok-before.ensures.ledger ∙ (λ i. saying (assert_measure (way_of s.ledger (d i)) measures) (ledger_of s.ledger)))

pub returns-clause-moves : goal.returns-clause-moves
returns-clause-moves c =
    let guard = expr_of c.args.guard.now in
    let measures = loop_measure guard (decreases_in c.args.decreases.now) in
    let entered = c.in_ok-past.ensures.standing in
    heads (standing_of c.args.self.now) (standing_of c.any_turn.new.self) _ (changed_in c.args.changed.now) guard (map clause_of c.args.invariants.now) measures c.in_ok-any_turn.ensures.moves
    (measure_said c ∙ (λ i. also (assert_measure (entered i).way measures) (entered i)))

pub returns-clause-past : goal.returns-clause-past
returns-clause-past c =
    let is = c.in_ok-past.ensures.stands in
    stays c.enter_branch.new.self.ledger.nodes c.loop_measure.new.self.nodes _ c.in_ok-past.past c.loop_measure.ensures.grows
    (record { below = is.below; tree_is = is.tree_is ∙ passes_by (standing_of c.args.self.now) (standing_of c.any_turn.new.self) (changed_in c.args.changed.now) (expr_of c.args.guard.now) (map clause_of c.args.invariants.now) c.in_ok-any_turn.ensures.moves })

pub returns-clause-measured : goal.returns-clause-measured
returns-clause-measured c =
    let s = c.enter_branch.new.self in
    let measures = loop_measure (expr_of c.args.guard.now) (decreases_in c.args.decreases.now) in
    let d = c.deref.ensures.value in
    c.in_ok-before.ensures.measured ∙ (λ i. measured (trees_in s.ledger.nodes (d i)) measures) ∙ ap (λ (a : Standing). measured a.way.env measures) (sym (measure_said c))

-- ---- on every way out

pub returns-in_err-past-clause-grows : goal.returns-in_err-past-clause-grows
returns-in_err-past-clause-grows c = grows_then _ _ _ c.any_turn.ensures.grows c.enter_branch.ensures.grows

pub returns-in_err-before-clause-grows : goal.returns-in_err-before-clause-grows
returns-in_err-before-clause-grows c = grows_then _ _ _ (grows_then _ _ _ c.any_turn.ensures.grows c.enter_branch.ensures.grows) c.loop_measure.ensures.grows

pub returns-clause-grows : goal.returns-clause-grows
returns-clause-grows c = grows_then _ _ _ (grows_then _ _ _ c.any_turn.ensures.grows c.enter_branch.ensures.grows) c.loop_measure.ensures.grows
