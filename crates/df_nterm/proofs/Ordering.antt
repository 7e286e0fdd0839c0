-- The formula of an order on measures.
use Rattle.std.proofs.Common.{◌≡◌, ℕ, ℤ, pos, int_le, int_lt, nat_lt, Bool, true, false, not, ◌&&◌, ◌||◌, List, [], ◌∷◌, map, refl, ap, ◌∙◌, arith}
use Rattle.std.proofs.lemmas.Int.{ints}
use Rattle.df_meaning.specs.Value.{Value, same_value, truth_of}
use Rattle.df_meaning.specs.Value as values
use Rattle.df_meaning.specs.Order as order
use Rattle.df_nterm.specs.Term.{Sort, Numbers, Truths, Characters, Term, sort_of_type, both, either}
use Rattle.df_nterm.specs.Meaning.{Interpretation, has_sort, value}
use Rattle.df_nterm.specs.Measuring.{Measured, below_of, same_of, is_below, is_same, are_below}
use Rattle.df_nterm.specs.Laws.{AreMeasured, BelowIsOrder}

with_true : (a b : Bool) → (a && (b && true)) ≡ (a && b)
with_true a true = refl
with_true a false = refl

with_false : (a b : Bool) → (a || (b || false)) ≡ (a || b)
with_false a true = refl
with_false a false = refl

module _ (i : Interpretation) where
  less_below : (y z : ℤ) → (not (int_le z y) && (int_le (pos 0) z && true)) ≡ (int_lt y z && int_le (pos 0) z)
  less_below y z = grind (arith, ints)

  code_below : (c d : ℕ) → not (int_le (pos d) (pos c)) ≡ nat_lt c d
  code_below c d = grind (arith, ints)

  -- by the sorts of both
  below_value : (x y : Sort) (a b : Term) (v w : Value) → value i a ≡ v → value i b ≡ w → has_sort x v ≡ true → has_sort y w ≡ true → value i (below_of x y a b) ≡ values.Truth (order.is_below v w)
  below_value Truths Truths a b (values.Truth v) (values.Truth w) e f h g = rw (e, f) (ap values.Truth (with_true (not v) w))
  below_value Characters Characters a b (values.Character c) (values.Character d) e f h g = rw (e, f) (ap values.Truth (code_below c d))
  below_value Numbers Numbers a b (values.Number y) (values.Number z) e f h g = rw (e, f) (ap values.Truth (less_below y z))
  below_value Truths Characters a b (values.Truth v) (values.Character d) e f h g = refl
  below_value Truths Numbers a b (values.Truth v) (values.Number z) e f h g = refl
  below_value Characters Truths a b (values.Character c) (values.Truth w) e f h g = refl
  below_value Characters Numbers a b (values.Character c) (values.Number z) e f h g = refl
  below_value Numbers Truths a b (values.Number y) (values.Truth w) e f h g = refl
  below_value Numbers Characters a b (values.Number y) (values.Character d) e f h g = refl
  below_value x y a b v w e f h g = cc

  same_of_value : (x y : Sort) (a b : Term) (v w : Value) → value i a ≡ v → value i b ≡ w → has_sort x v ≡ true → has_sort y w ≡ true → value i (same_of x y a b) ≡ values.Truth (same_value v w)
  same_of_value Truths Truths a b (values.Truth v) (values.Truth w) e f h g = rw (e, f) refl
  same_of_value Characters Characters a b (values.Character c) (values.Character d) e f h g = rw (e, f) refl
  same_of_value Numbers Numbers a b (values.Number y) (values.Number z) e f h g = rw (e, f) refl
  same_of_value Truths Characters a b (values.Truth v) (values.Character d) e f h g = refl
  same_of_value Truths Numbers a b (values.Truth v) (values.Number z) e f h g = refl
  same_of_value Characters Truths a b (values.Character c) (values.Truth w) e f h g = refl
  same_of_value Characters Numbers a b (values.Character c) (values.Number z) e f h g = refl
  same_of_value Numbers Truths a b (values.Number y) (values.Truth w) e f h g = refl
  same_of_value Numbers Characters a b (values.Number y) (values.Character d) e f h g = refl
  same_of_value x y a b v w e f h g = cc

  below_member : (a b : Measured) → has_sort (sort_of_type a.ty) (value i a.value) ≡ true → has_sort (sort_of_type b.ty) (value i b.value) ≡ true → value i (is_below a b) ≡ values.Truth (order.is_below (value i a.value) (value i b.value))
  below_member a b h g = below_value (sort_of_type a.ty) (sort_of_type b.ty) a.value b.value (value i a.value) (value i b.value) refl refl h g

  same_member : (a b : Measured) → has_sort (sort_of_type a.ty) (value i a.value) ≡ true → has_sort (sort_of_type b.ty) (value i b.value) ≡ true → value i (is_same a b) ≡ values.Truth (same_value (value i a.value) (value i b.value))
  same_member a b h g = same_of_value (sort_of_type a.ty) (sort_of_type b.ty) a.value b.value (value i a.value) (value i b.value) refl refl h g

  abbrev all_values : List Measured → List Value
  all_values members = map (λ (one : Measured). value i one.value) members

  -- at the first place where they differ
  step : (a b : Measured) (rest : Term) (more others : List Value) → has_sort (sort_of_type a.ty) (value i a.value) ≡ true → has_sort (sort_of_type b.ty) (value i b.value) ≡ true
      → value i rest ≡ values.Truth (order.are_below more others)
      → value i (either (is_below a b) (both (is_same a b) rest)) ≡ values.Truth (order.are_below (value i a.value ∷ more) (value i b.value ∷ others))
  step a b rest more others h g e = rw (below_member a b h g, same_member a b h g, e) (ap values.Truth (joined (order.is_below (value i a.value) (value i b.value)) (same_value (value i a.value) (value i b.value)) (order.are_below more others)))
    where
      joined : (x y z : Bool) → (x || ((y && (z && true)) || false)) ≡ (x || (y && z))
      joined x true true = refl
      joined x true false = refl
      joined x false z = refl

  below_is_order : (now before : List Measured) → AreMeasured i now → AreMeasured i before → value i (are_below now before) ≡ values.Truth (order.are_below (all_values now) (all_values before))
  below_is_order [] before h g = refl
  below_is_order (a ∷ more) [] h g = refl
  below_is_order (a ∷ []) (b ∷ []) h g = below_member a b h.0 g.0 ∙ ap values.Truth (alone (order.is_below (value i a.value) (value i b.value)) (same_value (value i a.value) (value i b.value)))
    where
      alone : (x y : Bool) → x ≡ (x || (y && false))
      alone true y = refl
      alone false true = refl
      alone false false = refl
  below_is_order (a ∷ []) (b ∷ c ∷ others) h g = step a b (are_below [] (c ∷ others)) (all_values []) (all_values (c ∷ others)) h.0 g.0 (below_is_order [] (c ∷ others) h.1 g.1)
  below_is_order (a ∷ c ∷ more) (b ∷ others) h g = step a b (are_below (c ∷ more) others) (all_values (c ∷ more)) (all_values others) h.0 g.0 (below_is_order (c ∷ more) others h.1 g.1)

pub below_orders : BelowIsOrder
below_orders i now before h g = below_is_order i now before h g
