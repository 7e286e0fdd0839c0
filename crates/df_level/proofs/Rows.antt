-- Rows with equal coefficients are equal.
use lib.Pointwise.{pointwise, pointwise_decides}
use Rattle.std.proofs.Common.{◌&&◌, ◌≡◌, ◌⊎◌, ⊎_elim, ℕ, suc, ◌<◌, ℤ, Bool, true, cond, List, [], ◌∷◌, refl, sym, ap, subst, ◌∙◌, rules, arith}
use Rattle.std.proofs.lemmas.Bool.{true≢false, eq-eqb, and_parts}
use Rattle.df_lemmas.proofs.Numbers.{more_unequal}
use Rattle.df_row.specs.Row.{Row}
use Rattle.df_level.specs.declared.row.Row as declared
use Rattle.df_level.specs.Entries.{coefficient_of, has_coefficient}
use Rattle.df_level.specs.Row.{function_row}
use Rattle.df_level.specs.contracts.row.RowPartialEq.TheImpl as key
use Rattle.df_level.proofs.Ascending.{IsFrom, from_test, none_below}

pub first_coefficient : (m : ℕ) (c : ℤ) (es : List (ℕ × ℤ)) → coefficient_of ((m, c) ∷ es) m ≡ c
first_coefficient m c es = ap (λ t. cond t c (coefficient_of es m)) (eq-eqb m m refl)

-- an entry below another list's
extra : (low m : ℕ) (c : ℤ) (es fs : List (ℕ × ℤ)) → has_coefficient c ≡ true → IsFrom low fs → m < low → ((n : ℕ) → coefficient_of ((m, c) ∷ es) n ≡ coefficient_of fs n) → ⊥
extra low m c es fs has from less same = true≢false (sym has ∙ ap has_coefficient (sym (first_coefficient m c es) ∙ same m ∙ none_below low fs m from less))

pub after_first : (m : ℕ) (c : ℤ) (es : List (ℕ × ℤ)) (n : ℕ) → m < n → coefficient_of ((m, c) ∷ es) n ≡ coefficient_of es n
after_first m c es n less = ap (λ t. cond t c (coefficient_of es n)) (more_unequal n m less)

-- both begin with one node
unequal_first : (m : ℕ) (c : ℤ) (es : List (ℕ × ℤ)) (k : ℕ) (d : ℤ) (fs : List (ℕ × ℤ)) → has_coefficient c ≡ true → has_coefficient d ≡ true → IsFrom (suc m) es → IsFrom (suc k) fs → ((n : ℕ) → coefficient_of ((m, c) ∷ es) n ≡ coefficient_of ((k, d) ∷ fs) n) → m ≡ k
unequal_first m c es k d fs p q left right same =
    let not_below : m < k → ⊥ = λ less. extra k m c es ((k, d) ∷ fs) p (omega arith, q, right) less same in
    let not_above : k < m → ⊥ = λ less. extra m k d fs ((m, c) ∷ es) q (omega arith, p, left) less (λ n. sym (same n)) in
    grind arith

-- and then the others are equal too
later : (m : ℕ) (c : ℤ) (es : List (ℕ × ℤ)) (d : ℤ) (fs : List (ℕ × ℤ)) → IsFrom (suc m) es → IsFrom (suc m) fs → ((n : ℕ) → coefficient_of ((m, c) ∷ es) n ≡ coefficient_of ((m, d) ∷ fs) n) → (n : ℕ) → coefficient_of es n ≡ coefficient_of fs n
later m c es d fs left right same n = ⊎_elim low high (sides m n)
  where
    sides : (m n : ℕ) → (n < suc m) ⊎ (m < n)
    sides m n = grind arith

    low : n < suc m → coefficient_of es n ≡ coefficient_of fs n
    low h = none_below (suc m) es n left h ∙ sym (none_below (suc m) fs n right h)

    high : m < n → coefficient_of es n ≡ coefficient_of fs n
    high h = sym (after_first m c es n h) ∙ same n ∙ after_first m d fs n h

pub same_entries : (low : ℕ) (es fs : List (ℕ × ℤ)) → IsFrom low es → IsFrom low fs → ((n : ℕ) → coefficient_of es n ≡ coefficient_of fs n) → es ≡ fs
same_entries low [] [] p q same = refl
same_entries low [] ((m, c) ∷ fs) p q same = absurd (extra (suc m) m c fs [] q.1 tt (omega arith) (λ n. sym (same n)))
same_entries low ((m, c) ∷ es) [] p q same = absurd (extra (suc m) m c es [] p.1 tt (omega arith) same)
same_entries low ((m, c) ∷ es) ((k, d) ∷ fs) p q same = by (unequal_first m c es k d fs p.1 q.1 p.2 q.2 same) (λ r. same_entries (suc m) es fs p.2 r)
  where
    by : m ≡ k → (IsFrom (suc m) fs → ((n : ℕ) → coefficient_of es n ≡ coefficient_of fs n) → es ≡ fs) → (m, c) ∷ es ≡ (k, d) ∷ fs
    by is then =
        let P : ℕ → Type 0 = λ j. IsFrom (suc j) fs in
        let from : IsFrom (suc m) fs = subst P (sym is) q.2 in
        let coefficient : c ≡ d = sym (first_coefficient m c es) ∙ same m ∙ ap (coefficient_of ((k, d) ∷ fs)) is ∙ first_coefficient k d fs in
        let others : es ≡ fs = then from (later m c es d fs p.2 from (λ n. same n ∙ ap (λ j. coefficient_of ((j, d) ∷ fs) n) (sym is))) in
        λ i. (is i, coefficient i) ∷ others i

-- a test of pairs that decides whether they are equal
abbrev Decides : (ℕ × ℤ → ℕ × ℤ → Bool) → Type 0
Decides test = (x y : ℕ × ℤ) → (test x y ≡ true → x ≡ y) × (x ≡ y → test x y ≡ true)

from_test_of : (test : ℕ × ℤ → ℕ × ℤ → Bool) (xs ys : List (ℕ × ℤ)) (t : Bool) → (pointwise test xs ys && t) ≡ true → Decides test → (xs ≡ ys) × (t ≡ true)
from_test_of test xs ys t e decides = let parts = and_parts (pointwise test xs ys) t e in ((pointwise_decides decides xs ys).0 parts.0, parts.1)

to_test_of : (test : ℕ × ℤ → ℕ × ℤ → Bool) (xs ys : List (ℕ × ℤ)) (t : Bool) → Decides test → xs ≡ ys → t ≡ true → (pointwise test xs ys && t) ≡ true
to_test_of test xs ys t decides e h = rw ((pointwise_decides decides xs ys).1 e, h) refl

module _ (a b : declared.Row) where
  abbrev pub eq : Bool
  eq = key.eq-value.it a b

  equal_parts : eq ≡ true → (a.coefficients.items ≡ b.coefficients.items) × (a.constant ≡ b.constant)
  equal_parts e =
      let parts = from_test_of _ a.coefficients.items b.coefficients.items _ e (λ x y. (search rules, search rules)) in
      (parts.0, (let h = parts.1 in search rules))

  pub equal_rows : eq ≡ true → function_row a ≡ function_row b
  equal_rows e = let parts = equal_parts e in λ i. record { coefficient = coefficient_of (parts.0 i); constant = parts.1 i }

  from_parts : a.coefficients.items ≡ b.coefficients.items → a.constant ≡ b.constant → eq ≡ true
  from_parts p q = to_test_of _ a.coefficients.items b.coefficients.items _ (λ x y. (search rules, search rules)) p (search rules)

  pub equal_back : function_row a ≡ function_row b → eq ≡ true
  equal_back e = from_parts (same_entries 0 a.coefficients.items b.coefficients.items (from_test 0 a.coefficients.items a.ordered) (from_test 0 b.coefficients.items b.ordered) (λ n. ap (λ (r : Row). r.coefficient n) e)) (ap (λ (r : Row). r.constant) e)
