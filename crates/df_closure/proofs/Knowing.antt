-- What is known of literals beside which a clause has one that is.
use Rattle.std.proofs.Common.{◌≡◌, ℕ, ◌⊎◌, inl, inr, Bool, true, false, not, ◌&&◌, List, [], ◌∷◌, refl, sym, true≢false}
use Rattle.std.specs.List.{list_any}
use Rattle.std.proofs.lemmas.Bool.{or_cases, or_left, or_right}
use Rattle.df_form.specs.declared.log.Lit.{Lit}
use Rattle.df_form.specs.Clause.{Clause, yes, no, negation, is_among}
use Rattle.df_closure.specs.Full.{knows_of, IsConsistent}

pub and_false : (a b : Bool) → (not a ≡ true) ⊎ (not b ≡ true) → not (a && b) ≡ true
and_false true b (inl e) = absurd (true≢false (sym e))
and_false true b (inr e) = e
and_false false b e = refl

module _ (known : List Lit) where
  -- a literal by its sign and its node
  abbrev pub Knows : Bool → ℕ → Type 0
  Knows b m = is_among known (record { positive = b; node = m }) ≡ true

  abbrev pub Known : Clause → Type 0
  Known clause = list_any (is_among known) clause ≡ true

  pub known_of : (b : Bool) (n : ℕ) → Knows b n → knows_of known n ≡ true
  known_of true n e = or_left (is_among known (yes n)) (is_among known (no n)) e
  known_of false n e = or_right (is_among known (yes n)) (is_among known (no n)) e

  pub one_left : (l : Lit) → Known (l ∷ []) → is_among known l ≡ true
  one_left l e = next (or_cases (is_among known l) false e)
    where
      next : (is_among known l ≡ true) ⊎ (false ≡ true) → is_among known l ≡ true
      next (inl here) = here
      next (inr none) = absurd (true≢false (sym none))

  pub two_left : (l m : Lit) → Known (l ∷ m ∷ []) → (is_among known l ≡ true) ⊎ (is_among known m ≡ true)
  two_left l m e = next (or_cases (is_among known l) (list_any (is_among known) (m ∷ [])) e)
    where
      next : (is_among known l ≡ true) ⊎ (Known (m ∷ [])) → (is_among known l ≡ true) ⊎ (is_among known m ≡ true)
      next (inl here) = inl here
      next (inr rest) = inr (one_left m rest)

  module _ (consistent : IsConsistent known) where
    -- a clause of a known node begins with its negation, which is not known
    rest_true : (l : Lit) (others : Clause) → is_among known l ≡ true → Known (negation l ∷ others) → Known others
    rest_true l others is e = next (or_cases (is_among known (negation l)) (list_any (is_among known) others) e)
      where
        next : (is_among known (negation l) ≡ true) ⊎ Known others → Known others
        next (inl here) = absurd (consistent l is here)
        next (inr rest) = rest

    pub rest_yes : (n : ℕ) (others : Clause) → Knows true n → Known (no n ∷ others) → Known others
    rest_yes n others is e = rest_true (yes n) others is e

    pub rest_no : (n : ℕ) (others : Clause) → Knows false n → Known (yes n ∷ others) → Known others
    rest_no n others is e = rest_true (no n) others is e
