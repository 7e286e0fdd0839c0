-- How many locals of a range have no value.
use Rattle.std.proofs.Common.{◌≡◌, ◌≤◌, ◌<◌, ◌+◌, ◌-◌, ◌⊎◌, inl, inr, ℕ, zero, suc, ◌==◌, nat_le, nat_lt, Bool, true, false, List, [], ◌∷◌, length, set, refl, sym, ap, ◌∙◌, arith}
use Rattle.std.proofs.lemmas.Bool.{eqb-false, leb-true, ltb-true, le-leb, lt-ltb, ne_eqb, and_parts, and_from}
use Rattle.std.proofs.lemmas.List.{get_or-set_other, get_or-set_same}
use Rattle.std.proofs.Math.Nat.{eq-or-lt_of_le}
use Rattle.df_lemmas.proofs.Numbers.{more_unequal}
use Rattle.df_nghost.specs.mirror.Listed.{holds, is_counted, number_without, without}

-- a local that has no value stays without one
pub set_none : (values : List Bool) (local : ℕ) → holds values local ≡ false → set values local false ≡ values
set_none [] local e = refl
set_none (v ∷ vs) zero e = ap (λ (w : Bool). w ∷ vs) (sym e)
set_none (v ∷ vs) (suc local) e = ap (λ (ws : List Bool). v ∷ ws) (set_none vs local e)

-- ---- the others stay as they are

without_same : (has other : ℕ → Bool) (from count : ℕ) → ((k : ℕ) → from ≤ k → k < from + count → other k ≡ has k) → without other from count ≡ without has from count
without_same has other from zero same = refl
without_same has other from (suc count) same =
    let here : number_without (other from) ≡ number_without (has from) = ap number_without (same from (omega arith) (omega arith)) in
    let rest = without_same has other (suc from) count (λ k le lt. same k (omega (arith, le)) (omega (arith, lt))) in
    omega (arith, here, rest)

-- one of them takes a value
pub one_less : (has other : ℕ → Bool) (local from count : ℕ) → has local ≡ false → other local ≡ true → ((k : ℕ) → (k == local) ≡ false → other k ≡ has k) → from ≤ local → local < from + count
    → without has from count ≡ suc (without other from count)
one_less has other local from zero none some same le lt = absurd (omega (arith, le, lt))
one_less has other local from (suc count) none some same le lt = by_place (eq-or-lt_of_le le) (one_less has other local (suc from) count none some same)
  where
    by_place : (from ≡ local) ⊎ (from < local) → (suc from ≤ local → local < suc from + count → without has (suc from) count ≡ suc (without other (suc from) count)) → without has from (suc count) ≡ suc (without other from (suc count))
    by_place (inl here) goes =
        let before : number_without (has from) ≡ 1 = ap number_without (ap has here ∙ none) in
        let behind : number_without (other from) ≡ 0 = ap number_without (ap other here ∙ some) in
        let rest = without_same has other (suc from) count (λ k more less. same k (more_unequal k local (omega (arith, here, more)))) in
        omega (arith, before, behind, rest)
    by_place (inr more) goes =
        let here : number_without (other from) ≡ number_without (has from) = ap number_without (same from (ne_eqb from local (λ e. omega (arith, e, more)))) in
        let rest = goes (omega (arith, more)) (omega (arith, lt)) in
        omega (arith, here, rest)

-- ---- a local of the range, or another

pub counted_less : (has other : ℕ → Bool) (local from count : ℕ) → is_counted from count local ≡ true → has local ≡ false → other local ≡ true → ((k : ℕ) → (k == local) ≡ false → other k ≡ has k)
    → without has from count ≡ suc (without other from count)
counted_less has other local from count is none some same =
    let parts = and_parts (nat_le from local) (nat_lt (local - from) count) is in
    let le : from ≤ local = leb-true from local parts.0 in
    let lt : local - from < count = ltb-true (local - from) count parts.1 in
    one_less has other local from count none some same le (omega (arith, le, lt))

pub other_same : (has other : ℕ → Bool) (local from count : ℕ) → is_counted from count local ≡ false → ((k : ℕ) → (k == local) ≡ false → other k ≡ has k) → without other from count ≡ without has from count
other_same has other local from count is same =
    without_same has other from count (λ k le lt. same k (ne_eqb k local (λ e. inside k le lt (ap (is_counted from count) e ∙ is))))
  where
    inside : (k : ℕ) → from ≤ k → k < from + count → is_counted from count k ≡ false → ⊥
    inside k le lt out =
        let in_range : is_counted from count k ≡ true = and_from (nat_le from k) (nat_lt (k - from) count) (le-leb from k le) (lt-ltb (k - from) count (omega (arith, le, lt))) in
        absurd (let e : true ≡ false = sym in_range ∙ out in cc)

listed_there : (values : List Bool) (local : ℕ) → holds values local ≡ true → local < length values
listed_there [] local e = absurd (let f : false ≡ true = e in cc)
listed_there (v ∷ vs) zero e = omega arith
listed_there (v ∷ vs) (suc local) e = let there = listed_there vs local e in omega (arith, there)

-- ---- a local takes a value in a list that says the same

set_there : (values : List Bool) (local : ℕ) (v : Bool) → local < length values → holds (set values local v) local ≡ v
set_there values local v lt = get_or-set_same values local v false lt

set_elsewhere : (values : List Bool) (local : ℕ) (v : Bool) (k : ℕ) → (k == local) ≡ false → holds (set values local v) k ≡ holds values k
set_elsewhere values local v k other = get_or-set_other values local k v false (eqb-false k local other)

pub put_less : (before listed : List Bool) (local from count : ℕ) → ((k : ℕ) → holds listed k ≡ holds before k) → local < length listed → holds before local ≡ false → is_counted from count local ≡ true
    → without (holds before) from count ≡ suc (without (holds (set listed local true)) from count)
put_less before listed local from count same lt none is =
    counted_less (holds before) (holds (set listed local true)) local from count is none (set_there listed local true lt) (λ k other. set_elsewhere listed local true k other ∙ same k)

pub put_same : (before listed : List Bool) (local from count : ℕ) → ((k : ℕ) → holds listed k ≡ holds before k) → is_counted from count local ≡ false
    → without (holds (set listed local true)) from count ≡ without (holds before) from count
put_same before listed local from count same is = other_same (holds before) (holds (set listed local true)) local from count is (λ k other. set_elsewhere listed local true k other ∙ same k)

-- ---- a local loses its value

pub unset_more : (before : List Bool) (local from count : ℕ) → holds before local ≡ true → is_counted from count local ≡ true → without (holds (set before local false)) from count ≡ suc (without (holds before) from count)
unset_more before local from count has is =
    counted_less (holds (set before local false)) (holds before) local from count is (set_there before local false (listed_there before local has)) has (λ k other. sym (set_elsewhere before local false k other))

pub unset_same : (before : List Bool) (local from count : ℕ) → is_counted from count local ≡ false → without (holds (set before local false)) from count ≡ without (holds before) from count
unset_same before local from count is = other_same (holds before) (holds (set before local false)) local from count is (λ k other. set_elsewhere before local false k other)

-- ---- all of them

number_small : (b : Bool) → number_without b ≤ 1
number_small true = omega arith
number_small false = omega arith

pub at_most : (has : ℕ → Bool) (from count : ℕ) → without has from count ≤ count
at_most has from zero = omega arith
at_most has from (suc count) =
    let here = number_small (has from) in
    let rest = at_most has (suc from) count in
    omega (arith, here, rest)

pub all_without : (has : ℕ → Bool) (from count : ℕ) → ((k : ℕ) → from ≤ k → has k ≡ false) → without has from count ≡ count
all_without has from zero none = refl
all_without has from (suc count) none =
    let here : number_without (has from) ≡ 1 = ap number_without (none from (omega arith)) in
    let rest = all_without has (suc from) count (λ k le. none k (omega (arith, le))) in
    omega (arith, here, rest)

pub none_without : (from count : ℕ) → without (λ k. true) from count ≡ 0
none_without from zero = refl
none_without from (suc count) = let rest = none_without (suc from) count in omega (arith, rest)
