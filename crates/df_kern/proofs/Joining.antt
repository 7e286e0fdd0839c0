-- Two classes that become one.
use Rattle.std.proofs.Common.{◌≡◌, ℕ, ◌<◌, ◌==◌, nat_lt, Bool, true, false, refl, sym, ap, ◌∙◌, arith, lt-ltb, ltb-true, if◌then◌else◌, eqb-true}
use Rattle.df_form.specs.declared.log.Pair.{Pair}
use Rattle.df_rules.specs.Classes.{joined, lower, higher}

not_less : (a b : ℕ) → (a < b → ⊥) → nat_lt a b ≡ false
not_less a b never = by (nat_lt a b) refl
  where
    by : (v : Bool) → nat_lt a b ≡ v → nat_lt a b ≡ false
    by true e = absurd (never (ltb-true a b e))
    by false e = e

module _ (class : ℕ → ℕ) (pair : Pair) (left right : ℕ) (l : left ≡ class pair.left) (r : right ≡ class pair.right) where
  less : (v : Bool) → nat_lt left right ≡ v → nat_lt (class pair.left) (class pair.right) ≡ v
  less v e = (λ i. nat_lt (sym l i) (sym r i)) ∙ e

  -- the lesser of two names stays
  pub joins : (next mid : ℕ → ℕ) → mid ≡ class → left < right → next ≡ (λ n. if mid n == right then left else mid n) → next ≡ joined class pair
  joins next mid same lt is =
      is
      ∙ (λ i n. if same i n == (r ∙ ap (λ (v : Bool). if v then class pair.right else class pair.left) (sym (less true (lt-ltb left right lt)))) i
      then (l ∙ ap (λ (v : Bool). if v then class pair.left else class pair.right) (sym (less true (lt-ltb left right lt)))) i else same i n)

  pub joins_back : (next mid : ℕ → ℕ) → mid ≡ class → right < left → next ≡ (λ n. if mid n == left then right else mid n) → next ≡ joined class pair
  joins_back next mid same lt is =
      let more : nat_lt left right ≡ false = not_less left right (λ gt. omega (arith, lt, gt)) in
      is
      ∙ (λ i n. if same i n == (l ∙ ap (λ (v : Bool). if v then class pair.right else class pair.left) (sym (less false more))) i
      then (r ∙ ap (λ (v : Bool). if v then class pair.left else class pair.right) (sym (less false more))) i else same i n)

  -- a class with itself stays
  pub joins_none : (mid : ℕ → ℕ) → mid ≡ class → left ≡ right → mid ≡ joined class pair
  joins_none mid same e =
      let more : nat_lt left right ≡ false = not_less left right (λ lt. omega (arith, lt, e)) in
      let high : higher (class pair.left) (class pair.right) ≡ left = ap (λ (v : Bool). if v then class pair.right else class pair.left) (less false more) ∙ sym l in
      let low : lower (class pair.left) (class pair.right) ≡ left = ap (λ (v : Bool). if v then class pair.left else class pair.right) (less false more) ∙ sym r ∙ sym e in
      same ∙ (λ i n. by n (class n == left) refl i) ∙ (λ i n. if class n == sym high i then sym low i else class n)
    where
      by : (n : ℕ) (v : Bool) → (class n == left) ≡ v → class n ≡ (if v then left else class n)
      by n true f = eqb-true (class n) left f
      by n false f = refl
