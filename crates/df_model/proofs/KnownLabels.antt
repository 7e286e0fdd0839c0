-- Known literals: among the equalities that are held, in the clause that denies them all, and by labels.
use Rattle.std.proofs.Common.{◌≡◌, ℕ, ◌⊎◌, inl, inr, Bool, true, false, ◌&&◌, ◌==◌, List, [], ◌∷◌, map, Contains, Option, Some, None, refl, sym, ap, arith, subst, true≢false, eqb-true}
use Rattle.std.specs.List.{cons_option}
use Rattle.std.proofs.lemmas.List.Elements.{Contains-append_right}
use Rattle.std.proofs.lemmas.Bool.{and_from, and_parts, or_cases, or_left, or_right}
use Rattle.df_lemmas.proofs.Numbers.{equal_self}
use Rattle.df_form.specs.declared.log.Lit.{Lit}
use Rattle.df_form.specs.declared.log.Pair.{Pair}
use Rattle.df_form.specs.Node.{Node}
use Rattle.df_form.specs.Clause.{yes, same_literal, negation, is_among}
use Rattle.df_meaning.specs.Value.{same_truth}
use Rattle.df_rules.specs.Congruence.{equality, negative_equality}
use Rattle.df_rules.proofs.SoundClauses.{same_literal_is}
use Rattle.df_classes.specs.HoldingView.{held_equalities}
use Rattle.df_model.specs.TableNumbers.{has_true}

first_there : {A : Type 0} (x : A) (xs : List A) → Contains (x ∷ xs) x
first_there x xs = (0, omega arith, refl)

later_there : {A : Type 0} (x : A) (xs : List A) (y : A) → Contains xs y → Contains (x ∷ xs) y
later_there x xs y there = Contains-append_right (x ∷ []) xs y there

cons_there : {A : Type 0} (o : Option A) (xs : List A) (x : A) → Contains xs x → Contains (cons_option o xs) x
cons_there None xs x there = there
cons_there (Some y) xs x there = later_there y xs x there

-- the clause that denies all known literals has the negation of each
pub denied_there : (known : List Lit) (l : Lit) → is_among known l ≡ true → Contains (map negation known) (negation l)
denied_there [] l e = absurd (true≢false (sym e))
denied_there (m ∷ ms) l e = by (or_cases (same_literal l m) (is_among ms l) e) (denied_there ms l)
  where
    by : (same_literal l m ≡ true) ⊎ (is_among ms l ≡ true) → (is_among ms l ≡ true → Contains (map negation ms) (negation l)) → Contains (map negation (m ∷ ms)) (negation l)
    by (inl same) go = subst (λ (k : Lit). Contains (map negation (m ∷ ms)) (negation k)) (sym (same_literal_is l m same)) (first_there (negation m) (map negation ms))
    by (inr rest) go = later_there (negation m) (map negation ms) (negation l) (go rest)

-- a known equality is held
pub held_there : (nodes : List Node) (known : List Lit) (n : ℕ) (pair : Pair) → is_among known (yes n) ≡ true → equality nodes n ≡ Some pair → Contains (held_equalities nodes known) pair
held_there nodes [] n pair e is = absurd (true≢false (sym e))
held_there nodes (m ∷ ms) n pair e is = by (or_cases (same_literal (yes n) m) (is_among ms (yes n)) e) (λ rest. held_there nodes ms n pair rest is)
  where
    here : Contains (cons_option (negative_equality nodes (negation (yes n))) (held_equalities nodes ms)) pair
    here = subst (λ (o : Option Pair). Contains (cons_option o (held_equalities nodes ms)) pair) (sym is) (first_there pair (held_equalities nodes ms))

    by : (same_literal (yes n) m ≡ true) ⊎ (is_among ms (yes n) ≡ true) → (is_among ms (yes n) ≡ true → Contains (held_equalities nodes ms) pair) → Contains (held_equalities nodes (m ∷ ms)) pair
    by (inl same) go = subst (λ (k : Lit). Contains (cons_option (negative_equality nodes (negation k)) (held_equalities nodes ms)) pair) (same_literal_is (yes n) m same) here
    by (inr rest) go = cons_there (negative_equality nodes (negation m)) (held_equalities nodes ms) pair (go rest)

module _ (label : ℕ → ℕ) where
  abbrev IsTrueOf : ℕ → Lit → Bool
  IsTrueOf n l = l.positive && label l.node == label n

  -- a known formula is one of its label
  pub true_held : (facts : List Lit) (n : ℕ) → is_among facts (yes n) ≡ true → has_true label facts n ≡ true
  true_held [] n e = absurd (true≢false (sym e))
  true_held (l ∷ ls) n e = by (or_cases (same_literal (yes n) l) (is_among ls (yes n)) e) (true_held ls n)
    where
      by : (same_literal (yes n) l ≡ true) ⊎ (is_among ls (yes n) ≡ true) → (is_among ls (yes n) ≡ true → has_true label ls n ≡ true) → has_true label (l ∷ ls) n ≡ true
      by (inl same) go = or_left (IsTrueOf n l) (has_true label ls n) (subst (λ (k : Lit). IsTrueOf n k ≡ true) (same_literal_is (yes n) l same) (equal_self (label n)))
      by (inr rest) go = or_right (IsTrueOf n l) (has_true label ls n) (go rest)

  yes_same : (l : Lit) → l.positive ≡ true → same_literal (yes l.node) l ≡ true
  yes_same l e = and_from (same_truth true l.positive) (l.node == l.node) (ap (same_truth true) e) (equal_self l.node)

  pub held_true : (facts : List Lit) (n : ℕ) → has_true label facts n ≡ true → (m : ℕ) × (is_among facts (yes m) ≡ true) × (label m ≡ label n)
  held_true [] n e = absurd (true≢false (sym e))
  held_true (l ∷ ls) n e = by (or_cases (IsTrueOf n l) (has_true label ls n) e) (held_true ls n)
    where
      by : (IsTrueOf n l ≡ true) ⊎ (has_true label ls n ≡ true) → (has_true label ls n ≡ true → (m : ℕ) × (is_among ls (yes m) ≡ true) × (label m ≡ label n)) → (m : ℕ) × (is_among (l ∷ ls) (yes m) ≡ true) × (label m ≡ label n)
      by (inl here) go =
          let parts = and_parts l.positive (label l.node == label n) here in
          (l.node, or_left (same_literal (yes l.node) l) (is_among ls (yes l.node)) (yes_same l parts.0), eqb-true (label l.node) (label n) parts.1)
      by (inr rest) go = let found = go rest in (found.0, or_right (same_literal (yes found.0) l) (is_among ls (yes found.0)) found.1, found.2)
