-- Clauses that are bound to later equalities leave branches as they are: no literal of these equalities is known.
use Rattle.std.proofs.Common.{◌≡◌, ◌⊎◌, inl, inr, ⊎_elim, ℕ, ◌≤◌, Bool, true, false, ◌||◌, List, [], ◌∷◌, ◌++◌, length, Some, slice_get, refl, ap, ◌∙◌, arith}
use Rattle.df_lemmas.proofs.Lists.{get_grown}
use Rattle.df_lemmas.proofs.Truths.{true_is_not_false}
use Rattle.df_form.specs.declared.log.Lit.{Lit}
use Rattle.df_form.specs.Node.{Node}
use Rattle.df_form.specs.Clause.{yes, no, is_among, are_literals}
use Rattle.df_clause.specs.Among.{Among}
use Rattle.df_closure.specs.Closure.{GroundClause, counts_for, Teaches, Refutes, Taught, nothing, more, after, IsClosed, IsRefuted}
use Rattle.df_closure.specs.Filled.{IsOpenClause, IsFilled}
use Rattle.df_branch.specs.Evidence.{IsShut, by_clauses, by_congruence, by_rows, IsUnshut, IsDecision, of_clause, of_equality, of_split, MayFollow, IsBranchAfter}
use Rattle.df_branch.specs.Next.{IsQuiet, ComesNext}
use Rattle.df_branch.proofs.Formulas.{get_joined, formula_below}

-- each is bound to a node from a number on
abbrev pub AreLater : ℕ → List GroundClause → Type 0
AreLater count added = (clause : GroundClause) → Among added clause → (n : ℕ) × (clause.bound ≡ Some n) × (count ≤ n)

neither : (a b : Bool) → (a ≡ true → ⊥) → (b ≡ true → ⊥) → (a || b) ≡ false
neither true b p q = absurd (p refl)
neither false true p q = absurd (q refl)
neither false false p q = refl

none_counts : (nodes : List Node) (known : List Lit) (n : ℕ) → are_literals nodes known ≡ true → length nodes ≤ n → counts_for known (Some n) ≡ false
none_counts nodes known n formulas past =
    neither (is_among known (yes n)) (is_among known (no n)) (λ e. let less = formula_below nodes known (yes n) e formulas in omega (arith, less, past)) (λ e. let less = formula_below nodes known (no n) e formulas in omega (arith, less, past))

module _ (clauses added : List GroundClause) where
  abbrev all : List GroundClause
  all = clauses ++ added

  -- whatever the later clauses are
  pub teaches_more : (known : List Lit) (number : ℕ) (l : Lit) → Teaches clauses known number l → Teaches all known number l
  teaches_more known number l t = record { clause = t.clause; there = get_grown clauses added number t.clause t.there; counts = t.counts; left = t.left }

  pub refutes_more : (known : List Lit) (number : ℕ) → Refutes clauses known number → Refutes all known number
  refutes_more known number r = record { clause = r.clause; there = get_grown clauses added number r.clause r.there; counts = r.counts; left = r.left }

  pub taught_more : (known : List Lit) (numbers : List ℕ) (learned : List Lit) → Taught clauses known numbers learned → Taught all known numbers learned
  taught_more known numbers learned nothing = nothing
  taught_more known numbers learned (more {number = n} {numbers = ns} {literal = l} {literals = ls} first rest) = more (teaches_more known n l first) (taught_more (l ∷ known) ns ls rest)

  pub refuted_more : (list : List Lit) (numbers : List ℕ) → IsRefuted clauses list numbers → IsRefuted all list numbers
  refuted_more list numbers is = record {
    reasons = is.reasons;
    last = is.last;
    numbers_are = is.numbers_are;
    learned = is.learned;
    taught = taught_more list is.reasons is.learned is.taught;
    refutes = refutes_more (after list is.learned) is.last is.refutes;
  }

  pub open_more : (known : List Lit) (clause : GroundClause) → IsOpenClause clauses known clause → IsOpenClause all known clause
  open_more known clause is = record { number = is.number; there = get_grown clauses added is.number clause is.there; counts = is.counts; none = is.none }

  -- where they are bound to later equalities
  module _ (nodes : List Node) (past : AreLater (length nodes) added) where
    module _ (known : List Lit) (formulas : are_literals nodes known ≡ true) where
      pub was_there : (number : ℕ) (clause : GroundClause) → slice_get all number ≡ Some clause → counts_for known clause.bound ≡ true → slice_get clauses number ≡ Some clause
      was_there number clause at counts = by (get_joined clauses added number clause at)
        where
          by : (slice_get clauses number ≡ Some clause) ⊎ Among added clause → slice_get clauses number ≡ Some clause
          by (inl old) = old
          by (inr new) =
              let bound = past clause new in
              absurd (true_is_not_false (counts_for known clause.bound) counts (ap (counts_for known) bound.1 ∙ none_counts nodes known bound.0 formulas bound.2))

      pub filled_more : IsFilled clauses known → IsFilled all known
      filled_more filled clause is = filled clause (record { number = is.number; there = was_there is.number clause is.there is.counts; counts = is.counts; none = is.none })

    pub closed_more : (list : List Lit) (reasons : List ℕ) (learned : List Lit) → are_literals nodes (after list learned) ≡ true → IsClosed clauses list reasons learned → IsClosed all list reasons learned
    closed_more list reasons learned formulas is = record {
      taught = taught_more list reasons learned is.taught;
      settled = λ number l t. is.settled number l (record { clause = t.clause; there = was_there (after list learned) formulas number t.clause t.there t.counts; counts = t.counts; left = t.left });
      stands = λ number r. is.stands number (record { clause = r.clause; there = was_there (after list learned) formulas number r.clause r.there r.counts; counts = r.counts; left = r.left });
    }

    pub shut_more : (list : List Lit) → IsShut nodes clauses list → IsShut nodes all list
    shut_more list (by_clauses numbers is) = by_clauses numbers (refuted_more list numbers is)
    shut_more list (by_congruence reasons learned closed formulas contradicted) = by_congruence reasons learned (closed_more list reasons learned formulas closed) formulas contradicted
    shut_more list (by_rows reasons learned rows closed formulas rows_are refuted) = by_rows reasons learned rows (closed_more list reasons learned formulas closed) formulas rows_are refuted

    pub unshut_more : (list learned : List Lit) → IsUnshut nodes clauses list learned → IsUnshut nodes all list learned
    unshut_more list learned is = record {
      reasons = is.reasons;
      closed = closed_more list is.reasons learned is.formulas is.closed;
      formulas = is.formulas;
      quiet = is.quiet;
      rows = is.rows;
      rows_are = is.rows_are;
      unrefuted = is.unrefuted;
    }

    pub quiet_more : (list learned : List Lit) → IsQuiet nodes clauses list learned → IsQuiet nodes all list learned
    quiet_more list learned is = record { reasons = is.reasons; closed = closed_more list is.reasons learned is.formulas is.closed; formulas = is.formulas; quiet = is.quiet }

    pub decision_more : (set : List Node) (list learned : List Lit) (l : Lit) → are_literals nodes (after list learned) ≡ true → IsDecision set nodes clauses list learned l → IsDecision set nodes all list learned l
    decision_more set list learned l formulas (of_clause clause is_open there) = of_clause clause (open_more (after list learned) clause is_open) there
    decision_more set list learned l formulas (of_equality filled equality) = of_equality (filled_more (after list learned) formulas filled) equality
    decision_more set list learned l formulas (of_split filled split) = of_split (filled_more (after list learned) formulas filled) split

    pub follows_more : (set : List Node) (list : List Lit) (l : Lit) → MayFollow set nodes clauses list l → MayFollow set nodes all list l
    follows_more set list l is = record {
      learned = is.learned;
      unshut = unshut_more list is.learned is.unshut;
      not_true = is.not_true;
      not_false = is.not_false;
      decision = ⊎_elim (λ d. inl (decision_more set list is.learned l is.unshut.formulas d)) (λ d. inr (decision_more set list is.learned _ is.unshut.formulas d)) is.decision;
    }

    pub next_more : (set : List Node) (list : List Lit) (l : Lit) → ComesNext set nodes clauses list l → ComesNext set nodes all list l
    next_more set list l is = record {
      learned = is.learned;
      quiet = quiet_more list is.learned is.quiet;
      not_true = is.not_true;
      not_false = is.not_false;
      decision = ⊎_elim (λ d. inl (decision_more set list is.learned l is.quiet.formulas d)) (λ d. inr (decision_more set list is.learned _ is.quiet.formulas d)) is.decision;
    }

    pub branch_more : (set : List Node) (earlier branch : List Lit) → IsBranchAfter set nodes clauses earlier branch → IsBranchAfter set nodes all earlier branch
    branch_more set earlier [] is = tt
    branch_more set earlier (l ∷ others) is = (follows_more set earlier l is.0, branch_more set (earlier ++ l ∷ []) others is.1)
