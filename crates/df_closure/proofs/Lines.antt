-- What closed lists say as lines of a log.
use Rattle.std.proofs.Common.{◌≡◌, ℕ, Bool, true, List, [], ◌∷◌, ◌++◌, map, Option, Some, None, slice_get, if◌then◌else◌, refl, sym, ap, ◌∙◌, subst, true≢false}
use Rattle.std.specs.Option.{option_and_then, option_map}
use Rattle.df_form.proofs.Literals.{all_negated_twice}
use Rattle.df_form.specs.declared.log.Lit.{Lit}
use Rattle.df_form.specs.Node.{Node}
use Rattle.df_form.specs.Clause.{Clause, negation, are_literals}
use Rattle.df_rules.specs.Propagation.{left, is_empty, clauses_at, propagation_of, propagation_line}
use Rattle.df_rules.specs.Learning.{learned, learned_from, refutes}
use Rattle.df_closure.specs.Lines.{AreIn}
use Rattle.df_closure.specs.Closure.{GroundClause, Taught, nothing, more, after, IsClosed, IsRefuted}
use Rattle.df_rules.proofs.Learning.{found, ends, found_by_learning}

-- what is taught is what the kernel learns
pub taught_is_learned : (clauses : List GroundClause) (log : List Clause) → AreIn clauses log → (known : List Lit) (numbers : List ℕ) (literals : List Lit) → Taught clauses known numbers literals
    → learned known log numbers ≡ Some (after known literals)
taught_is_learned clauses log are known numbers literals nothing = refl
taught_is_learned clauses log are known numbers literals (more {number = n} {numbers = ns} {literal = l} {literals = ls} first rest) =
    ap (λ (o : Option Clause). option_and_then (λ more. learned more log ns) (learned_from known o)) (are.at n first.clause first.there)
    ∙ ap (λ (o : Option Lit). option_and_then (λ more. learned more log ns) (option_map (λ m. m ∷ known) o)) first.left
    ∙ taught_is_learned clauses log are (l ∷ known) ns ls rest

-- a line of propagation, by what is found from the list
line_is : (nodes : List Node) (log : List Clause) (list : List Lit) (numbers : List ℕ) → are_literals nodes (map negation list) ≡ true → found list (clauses_at log numbers) ≡ true
    → propagation_line nodes log numbers (map negation list) ≡ Some (map negation list)
line_is nodes log list numbers formulas e =
    ap (λ (b : Bool). if b then option_and_then (propagation_of (map negation list)) (clauses_at log numbers) else None) formulas
    ∙ by (clauses_at log numbers) (subst (λ (known : List Lit). found known (clauses_at log numbers) ≡ true) (sym (all_negated_twice list)) e)
  where
    by : (named : Option (List Clause)) → found (map negation (map negation list)) named ≡ true → option_and_then (propagation_of (map negation list)) named ≡ Some (map negation list)
    by None e = absurd (true≢false (sym e))
    by (Some clauses) e = ap (λ (b : Bool). if b then Some (map negation list) else None) e

module _ (nodes : List Node) (clauses : List GroundClause) (log : List Clause) (are : AreIn clauses log) (list : List Lit) (formulas : are_literals nodes (map negation list) ≡ true) where
  -- a list beside which a clause is false
  pub refuted_is_line : (numbers : List ℕ) → IsRefuted clauses list numbers → propagation_line nodes log numbers (map negation list) ≡ Some (map negation list)
  refuted_is_line numbers is = line_is nodes log list numbers formulas (ap (λ (ns : List ℕ). found list (clauses_at log ns)) is.numbers_are ∙ refuted)
    where
      refuted : found list (clauses_at log (is.reasons ++ is.last ∷ [])) ≡ true
      refuted =
          found_by_learning list log is.reasons is.last
          ∙ ap (λ (o : Option (List Lit)). ends o (slice_get log is.last)) (taught_is_learned clauses log are list is.reasons is.learned is.taught)
          ∙ ap (refutes (after list is.learned)) (are.at is.last is.refutes.clause is.refutes.there)
          ∙ is.refutes.left

  -- a closed list, and a clause of the log of which nothing is left beside it
  pub closed_is_line : (reasons : List ℕ) (learned : List Lit) (last : ℕ) (clause : Clause) → IsClosed clauses list reasons learned → slice_get log last ≡ Some clause → is_empty (left (after list learned) clause) ≡ true
      → propagation_line nodes log (reasons ++ last ∷ []) (map negation list) ≡ Some (map negation list)
  closed_is_line reasons learned last clause is there empty =
      line_is nodes log list (reasons ++ last ∷ []) formulas
      (
      found_by_learning list log reasons last
      ∙ ap (λ (o : Option (List Lit)). ends o (slice_get log last)) (taught_is_learned clauses log are list reasons learned is.taught)
      ∙ ap (refutes (after list learned)) there
      ∙ empty
      )
