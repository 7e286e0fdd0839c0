use Rattle.df_nflow.proofs.Words.{ℕ, Bool, List, map, sym, ap, ◌∙◌, subst, method_of, clause_of, DeclaredClause, AreClauses, ledger_of, way_of, owed_at, standing_of, also, way_if, on_ok_then, assert_clauses, at_clause}
use Rattle.df_meaning.specs.declared.kind.Kind.TheVariants as kinds
use Rattle.df_nledger.specs.Ledger.{saying}
use Rattle.df_nflow.proofs.Entering.{ensures_over}
use Rattle.df_nflow.proofs.Passing.{says, is_passed}
use Rattle.df_nflow.proofs.passed.Passed.owe_postconditions.Goals as goal

pub invariant_of-self : goal.invariant_of-self
invariant_of-self c = record { is_passed = is_passed c.args.self.now c.assert_clauses.new.self c.assert_clauses.ensures.grows }

pub assert_clauses-requires : goal.assert_clauses-requires
assert_clauses-requires c =
    let s = c.args.self.now in
    let m = method_of c.args.method.now in
    subst (λ (ns : List ℕ). AreClauses s.ledger.nodes ns (map clause_of c.deref-2.result.now)) (sym c.deref.ensures.value)
    (subst (λ (cs : List DeclaredClause). AreClauses s.ledger.nodes s.terms.items (map clause_of cs)) (sym c.deref-2.ensures.value)
    (ensures_over m s.ledger.nodes s.terms.items s.types.items c.requires.types s.is_passed.have_terms c.requires.typed))

pub returns : goal.returns
returns c =
    let s = c.args.self.now in
    let d = c.deref.ensures.value in
    let e = c.deref-2.ensures.value in
    let way = (standing_of s).way in
    let clauses = (method_of c.args.method.now).postconditions in
    record {
      said = on_ok_then c.assert_clauses.result c.assert_clauses.ensures.ledger (λ then.
          says s c.assert_clauses.new.self c.assert_clauses.ensures.grows (assert_clauses at_clause kinds.Ensures way clauses)
          (then ∙ (λ i. saying (assert_clauses at_clause kinds.Ensures (way_of s.ledger (d i)) (map clause_of (e i))) (ledger_of s.ledger)))
          ∙ ap (λ (b : Bool). also (owed_at clauses (way_if b way)) (standing_of s)) (sym c.if-not-goes_on.false));
    }
