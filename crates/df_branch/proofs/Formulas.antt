-- Literals of formulas, and members of joined lists.
use Rattle.std.proofs.Common.{◌≡◌, ◌⊎◌, inl, inr, ℕ, zero, suc, ◌<◌, Bool, true, List, [], ◌∷◌, ◌++◌, length, nat_lt, Some, slice_get, sym, subst, ltb-true}
use Rattle.std.specs.List.{list_all}
use Rattle.std.proofs.lemmas.Option.{same_Some}
use Rattle.std.proofs.lemmas.Bool.{and_parts, or_cases}
use Rattle.df_form.specs.declared.log.Lit.{Lit}
use Rattle.df_form.specs.declared.node.Sort.TheVariants as sorts
use Rattle.df_form.specs.Node.{Node, same_sort}
use Rattle.df_form.specs.Sorting.{sort_at, is_formula}
use Rattle.df_form.specs.Clause.{Clause, same_literal, is_among, are_literals}
use Rattle.df_rules.proofs.SoundClauses.{same_literal_is}

pub all_at : {A : Type 0} (test : A → Bool) (xs : List A) (n : ℕ) (x : A) → slice_get xs n ≡ Some x → list_all test xs ≡ true → test x ≡ true
all_at test [] n x e all = absurd cc
all_at test (y ∷ ys) zero x e all = subst (λ z. test z ≡ true) (same_Some y x e) (and_parts (test y) (list_all test ys) all).0
all_at test (y ∷ ys) (suc n) x e all = all_at test ys n x e (and_parts (test y) (list_all test ys) all).1

-- a member of two lists after one another is one of the first or of the second
pub get_joined : {A : Type 0} (xs ys : List A) (n : ℕ) (x : A) → slice_get (xs ++ ys) n ≡ Some x → (slice_get xs n ≡ Some x) ⊎ ((m : ℕ) × (slice_get ys m ≡ Some x))
get_joined [] ys n x e = inr (n, e)
get_joined (z ∷ zs) ys zero x e = inl e
get_joined (z ∷ zs) ys (suc n) x e = get_joined zs ys n x e

pub formula_of : (nodes : List Node) (clause : Clause) (l : Lit) → is_among clause l ≡ true → are_literals nodes clause ≡ true → is_formula nodes l.node ≡ true
formula_of nodes [] l e all = absurd cc
formula_of nodes (m ∷ ms) l e all =
    let parts = and_parts (is_formula nodes m.node) (are_literals nodes ms) all in
    elim (or_cases (same_literal l m) (is_among ms l) e) [
      | inl here ↦ subst (λ (k : Lit). is_formula nodes k.node ≡ true) (sym (same_literal_is l m here)) parts.0
      | inr rest ↦ formula_of nodes ms l rest parts.1
    ]

pub formula_below : (nodes : List Node) (clause : Clause) (l : Lit) → is_among clause l ≡ true → are_literals nodes clause ≡ true → l.node < length nodes
formula_below nodes clause l e all = ltb-true l.node (length nodes) (and_parts (nat_lt l.node (length nodes)) (same_sort (sort_at nodes l.node) sorts.Truth) (formula_of nodes clause l e all)).0
