-- More nodes leave branches as they are.
use Rattle.std.proofs.Common.{◌≡◌, inl, inr, ⊎_elim, true, List, [], ◌∷◌, ◌++◌, map, take, length, ◌∙◌}
use Rattle.df_form.specs.declared.log.Lit.{Lit}
use Rattle.df_form.specs.Node.{Node}
use Rattle.df_form.specs.Sorting.{IsTable}
use Rattle.df_form.specs.Clause.{negation, are_literals}
use Rattle.df_form.proofs.Values.{Grows, grown_get}
use Rattle.df_clause.proofs.Running.{grown_from}
use Rattle.df_clause.proofs.Literals.{literals_grown}
use Rattle.df_classes.specs.Equal.{IsContradicted}
use Rattle.df_cong.proofs.Growing.{contradicted_more_nodes}
use Rattle.df_cong.proofs.LaterNodes.{later_nodes_add_none}
use Rattle.df_closure.specs.Closure.{GroundClause, after}
use Rattle.df_closure.proofs.LaterRows.{rows_later}
use Rattle.df_branch.specs.Splits.{IsSplit}
use Rattle.df_branch.specs.TermPair.{IsTermEquality}
use Rattle.df_branch.specs.Evidence.{IsShut, by_clauses, by_congruence, by_rows, IsUnshut, IsDecision, of_clause, of_equality, of_split, MayFollow, IsBranchAfter}
use Rattle.df_branch.specs.Next.{IsQuiet, ComesNext}

module _ (nodes more : List Node) (table : IsTable more) (begins : take (length nodes) more ≡ nodes) where
  grows : Grows nodes more
  grows = grown_from nodes more begins

  pub formulas_later : (literals : List Lit) → are_literals nodes literals ≡ true → are_literals more literals ≡ true
  formulas_later literals e = literals_grown nodes more grows literals e

  pub quiet_later : (known : List Lit) → are_literals nodes known ≡ true → (IsContradicted nodes (map negation known) → ⊥) → IsContradicted more (map negation known) → ⊥
  quiet_later known formulas quiet h = quiet (later_nodes_add_none nodes more known table begins formulas h)

  pub split_later : (known : List Lit) (l : Lit) → are_literals nodes known ≡ true → IsSplit nodes known l → IsSplit more known l
  split_later known l formulas is = record {
    rows = is.rows;
    rows_are = rows_later nodes more table begins known formulas ∙ is.rows_are;
    first = is.first;
    variables = is.variables;
    levels = is.levels;
    elimination = is.elimination;
    count = is.count;
    within = is.within;
    term = is.term;
    bound = is.bound;
    between = is.between;
    place = is.place;
    is_bound = grown_get nodes more grows is.place _ is.is_bound;
    is_comparison = grown_get nodes more grows l.node _ is.is_comparison;
  }

  pub equality_later : (set : List Node) (l : Lit) → IsTermEquality set nodes l → IsTermEquality set more l
  equality_later set l is = record { left = is.left; right = is.right; is = grown_get nodes more grows l.node _ is.is; different = is.different; pair = is.pair }

  module _ (clauses : List GroundClause) where
    pub shut_later : (list : List Lit) → IsShut nodes clauses list → IsShut more clauses list
    shut_later list (by_clauses numbers is) = by_clauses numbers is
    shut_later list (by_congruence reasons learned closed formulas contradicted) =
        by_congruence reasons learned closed (formulas_later (after list learned) formulas) (contradicted_more_nodes nodes more (map negation (after list learned)) begins contradicted)
    shut_later list (by_rows reasons learned rows closed formulas rows_are refuted) =
        by_rows reasons learned rows closed (formulas_later (after list learned) formulas) (rows_later nodes more table begins (after list learned) formulas ∙ rows_are) refuted

    pub unshut_later : (list learned : List Lit) → IsUnshut nodes clauses list learned → IsUnshut more clauses list learned
    unshut_later list learned is = record {
      reasons = is.reasons;
      closed = is.closed;
      formulas = formulas_later (after list learned) is.formulas;
      quiet = quiet_later (after list learned) is.formulas is.quiet;
      rows = is.rows;
      rows_are = rows_later nodes more table begins (after list learned) is.formulas ∙ is.rows_are;
      unrefuted = is.unrefuted;
    }

    pub quiet_list_later : (list learned : List Lit) → IsQuiet nodes clauses list learned → IsQuiet more clauses list learned
    quiet_list_later list learned is = record {
      reasons = is.reasons;
      closed = is.closed;
      formulas = formulas_later (after list learned) is.formulas;
      quiet = quiet_later (after list learned) is.formulas is.quiet;
    }

    pub decision_later : (set : List Node) (list learned : List Lit) (l : Lit) → are_literals nodes (after list learned) ≡ true → IsDecision set nodes clauses list learned l → IsDecision set more clauses list learned l
    decision_later set list learned l formulas (of_clause clause is_open there) = of_clause clause is_open there
    decision_later set list learned l formulas (of_equality filled equality) = of_equality filled (equality_later set l equality)
    decision_later set list learned l formulas (of_split filled split) = of_split filled (split_later (after list learned) l formulas split)

    pub follows_later : (set : List Node) (list : List Lit) (l : Lit) → MayFollow set nodes clauses list l → MayFollow set more clauses list l
    follows_later set list l is = record {
      learned = is.learned;
      unshut = unshut_later list is.learned is.unshut;
      not_true = is.not_true;
      not_false = is.not_false;
      decision = ⊎_elim (λ d. inl (decision_later set list is.learned l is.unshut.formulas d)) (λ d. inr (decision_later set list is.learned _ is.unshut.formulas d)) is.decision;
    }

    pub next_later : (set : List Node) (list : List Lit) (l : Lit) → ComesNext set nodes clauses list l → ComesNext set more clauses list l
    next_later set list l is = record {
      learned = is.learned;
      quiet = quiet_list_later list is.learned is.quiet;
      not_true = is.not_true;
      not_false = is.not_false;
      decision = ⊎_elim (λ d. inl (decision_later set list is.learned l is.quiet.formulas d)) (λ d. inr (decision_later set list is.learned _ is.quiet.formulas d)) is.decision;
    }

    pub branch_later : (set : List Node) (earlier branch : List Lit) → IsBranchAfter set nodes clauses earlier branch → IsBranchAfter set more clauses earlier branch
    branch_later set earlier [] is = tt
    branch_later set earlier (l ∷ others) is = (follows_later set earlier l is.0, branch_later set (earlier ++ l ∷ []) others is.1)
