-- What all members of a list are.
use Rattle.std.proofs.Common.{◌≡◌, ◌<◌, ℕ, zero, suc, Bool, true, false, if◌then◌else◌, List, [], ◌∷◌, ◌++◌, length, filter, slice_index_or, arith, refl, ap}
use Rattle.std.specs.List.{AllByRecursion}
use Rattle.df_meaning2.specs.Value.{Values, no_value, value, list_of, values_of, Value, precedes, same, insert, ascending}

module _ {A : Type 0} (P : A → Type 0) where
  pub all_append : (xs ys : List A) → AllByRecursion P xs → AllByRecursion P ys → AllByRecursion P (xs ++ ys)
  all_append [] ys h k = k
  all_append (x ∷ xs) ys h k = (h.0, all_append xs ys h.1 k)

  pub all_filter : (test : A → Bool) (xs : List A) → AllByRecursion P xs → AllByRecursion P (filter test xs)
  all_filter test [] h = tt
  all_filter test (x ∷ xs) h = by_test (test x) (all_filter test xs h.1)
    where
      by_test : (b : Bool) → AllByRecursion P (filter test xs) → AllByRecursion P (if b then x ∷ filter test xs else filter test xs)
      by_test true k = (h.0, k)
      by_test false k = k

  pub all_nth : (n : ℕ) (xs : List A) (d : A) → n < length xs → AllByRecursion P xs → P (slice_index_or xs n d)
  all_nth n [] d le h = absurd (omega (arith, le))
  all_nth zero (x ∷ xs) d le h = h.0
  all_nth (suc n) (x ∷ xs) d le h = all_nth n xs d (omega (arith, le)) h.1

module _ (P : Value → Type 0) where
  insert_all : (v : Value) (ws : List Value) → P v → AllByRecursion P ws → AllByRecursion P (insert v ws)
  insert_all v [] h k = (h, tt)
  insert_all v (w ∷ ws) h k = by_order (precedes v w) (same v w) (insert_all v ws h k.1)
    where
      by_order : (b c : Bool) → AllByRecursion P (insert v ws) → AllByRecursion P (if b then v ∷ w ∷ ws else (if c then w ∷ ws else w ∷ insert v ws))
      by_order true c i = (h, k)
      by_order false true i = k
      by_order false false i = (k.0, i)

  pub all_ascending : (vs : List Value) → AllByRecursion P vs → AllByRecursion P (ascending vs)
  all_ascending [] h = tt
  all_ascending (v ∷ vs) h = insert_all v (ascending vs) h.0 (all_ascending vs h.1)

pub list_again : (vs : List Value) → list_of (values_of vs) ≡ vs
list_again [] = refl
list_again (v ∷ vs) = ap (λ ws. v ∷ ws) (list_again vs)

pub values_again : (vs : Values) → values_of (list_of vs) ≡ vs
values_again no_value = refl
values_again (value v vs) = ap (value v) (values_again vs)
