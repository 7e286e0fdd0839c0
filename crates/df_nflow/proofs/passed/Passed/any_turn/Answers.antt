use Rattle.df_nflow.proofs.Words.{List, map, ap, ◌∙◌, subst, clause_of, program_of, Ty, are_clauses, grows_not, havoc, at_clause, assert_clauses, assume_clauses, ledger_of, way_of, standing_of, Standing, Moves, changed_in, on_ok_then, grows_then}
use Rattle.df_meaning.specs.declared.kind.Kind.TheVariants as kinds
use Rattle.df_nledger.specs.Ledger.{saying}
use Rattle.df_nflow.proofs.Looping.{turns}
use Rattle.df_nflow.proofs.Passing.{says, locals, is_passed}
use Rattle.df_nflow.proofs.passed.Passed.any_turn.Goals as goal

pub invariant_of-self : goal.invariant_of-self
invariant_of-self c = record { is_passed = is_passed c.args.self.now c.assert_clauses.new.self c.assert_clauses.ensures.grows }

pub invariant_of-self-2 : goal.invariant_of-self-2
invariant_of-self-2 c = record { is_passed = is_passed c.havoc.new.self c.assume_clauses.new.self c.assume_clauses.ensures.grows }

pub assert_clauses-requires : goal.assert_clauses-requires
assert_clauses-requires c =
    let s = c.args.self.now in
    record { program = program_of c.args.setting.now.program.now; types = s.types.items; typed = c.requires.invariants; locals = locals s s.ledger (grows_not s.ledger.nodes) _ c.deref.ensures.value }

pub assume_clauses-requires : goal.assume_clauses-requires
assume_clauses-requires c =
    let s = c.havoc.new.self in
    record { program = program_of c.args.setting.now.program.now; types = s.types.items; typed = ap (λ (ts : List Ty). are_clauses (program_of c.args.setting.now.program.now) ts (map clause_of c.args.invariants.now)) c.in_ok-havoc.ensures.moves.types ∙ c.requires.invariants; locals = locals s s.ledger (grows_not s.ledger.nodes) _ c.deref-2.ensures.value }

pub returns-clause-moves : goal.returns-clause-moves
returns-clause-moves c =
    let s = c.args.self.now in
    let here = c.havoc.new.self in
    let old = standing_of s in
    let clauses = map clause_of c.args.invariants.now in
    let changed = changed_in c.args.changed.now in
    let d = c.deref.ensures.value in
    let d2 = c.deref-2.ensures.value in
    let owed = says s c.assert_clauses.new.self c.assert_clauses.ensures.grows (assert_clauses at_clause kinds.Entry old.way clauses) (c.in_ok-assert_clauses.ensures.ledger ∙ (λ i. saying (assert_clauses at_clause kinds.Entry (way_of s.ledger (d i)) clauses) (ledger_of s.ledger))) in
    on_ok_then c.assume_clauses.result c.assume_clauses.ensures.ledger (λ e. turns old (standing_of here) _ changed clauses
    (subst (λ (x : Standing). Moves x (havoc changed x.fresh x.way) (standing_of here)) owed c.in_ok-havoc.ensures.moves)
    (says here c.assume_clauses.new.self c.assume_clauses.ensures.grows (assume_clauses (standing_of here).way clauses) (e ∙ (λ i. saying (assume_clauses (way_of here.ledger (d2 i)) clauses) (ledger_of here.ledger)))))

-- ---- on every way out

pub returns-in_err-havoc-clause-grows : goal.returns-in_err-havoc-clause-grows
returns-in_err-havoc-clause-grows c = grows_then _ _ _ c.assert_clauses.ensures.grows c.havoc.ensures.grows

pub returns-clause-grows : goal.returns-clause-grows
returns-clause-grows c = grows_then _ _ _ (grows_then _ _ _ c.assert_clauses.ensures.grows c.havoc.ensures.grows) c.assume_clauses.ensures.grows
