-- The test of values is equality, and the order of values is total: so sets ascend.
use Rattle.std.proofs.Common.{◌≡◌, ℕ, Bool, true, false, not, ◌&&◌, ◌||◌, ◌==◌, nat_lt, int_lt, if◌then◌else◌, List, [], ◌∷◌, refl, sym, ap, ◌∙◌, subst, arith}
use Rattle.std.proofs.lemmas.Int.{ints}
use Rattle.std.proofs.lemmas.Bool.{eqb-true, and_parts, and_from}
use Rattle.df_lemmas.proofs.Numbers.{equal_self}
use Rattle.std.specs.Ordering.{int_eq}
use Rattle.df_types.specs.Ty.{same_type}
use Rattle.df_types.proofs.SameTypes.{same_type_equal, same_type_self}
use Rattle.df_meaning2.specs.Value.{Objects, no_object, instance_at, elements_at, same_objects, Value, NullReference, Truth, Character, Number, Reference, Made, Sequence, Collection, Memory, Values, no_value, value, values_of, same_truth, same, all_same, rank_of, precedes, list_precedes, precedes_first, is_ascending, insert, ascending}

number_equal : (a b : _) → int_eq a b ≡ true → a ≡ b
number_equal a b h = grind (arith, ints)

truth_equal : (a b : Bool) → same_truth a b ≡ true → a ≡ b
truth_equal true b h = sym h
truth_equal false true h = cc
truth_equal false false h = refl

mutual
  pub same_equal : (v w : Value) → same v w ≡ true → v ≡ w
  same_equal NullReference NullReference h = refl
  same_equal (Truth a) (Truth b) h = ap Truth (truth_equal a b h)
  same_equal (Character a) (Character b) h = ap Character (eqb-true a b h)
  same_equal (Number a) (Number b) h = ap Number (number_equal a b h)
  same_equal (Reference a) (Reference b) h = ap Reference (eqb-true a b h)
  same_equal (Made a vs) (Made b ws) h = let hs = and_parts (a == b) (all_same vs ws) h in ap (λ x. Made x vs) (eqb-true a b hs.0) ∙ ap (Made b) (all_same_equal vs ws hs.1)
  same_equal (Sequence vs) (Sequence ws) h = ap Sequence (all_same_equal vs ws h)
  same_equal (Collection vs) (Collection ws) h = ap Collection (all_same_equal vs ws h)
  same_equal (Memory a) (Memory b) h = ap Memory (same_objects_equal a b h)
  same_equal v w h = cc

  pub all_same_equal : (vs ws : Values) → all_same vs ws ≡ true → vs ≡ ws
  all_same_equal no_value no_value h = refl
  all_same_equal no_value (value w ws) h = cc
  all_same_equal (value v vs) no_value h = cc
  all_same_equal (value v vs) (value w ws) h = let hs = and_parts (same v w) (all_same vs ws) h in ap (λ x. value x vs) (same_equal v w hs.0) ∙ ap (value w) (all_same_equal vs ws hs.1)

  pub same_objects_equal : (a b : Objects) → same_objects a b ≡ true → a ≡ b
  same_objects_equal no_object no_object h = refl
  same_objects_equal (instance_at r c vs rest) (instance_at k d ws others) h =
      let hs = and_parts (r == k) ((c == d) && (all_same vs ws && same_objects rest others)) h in
      let are = and_parts (c == d) (all_same vs ws && same_objects rest others) hs.1 in
      let parts = and_parts (all_same vs ws) (same_objects rest others) are.1 in
      ap (λ x. instance_at x c vs rest) (eqb-true r k hs.0) ∙ (ap (λ x. instance_at k x vs rest) (eqb-true c d are.0)
      ∙ (ap (λ x. instance_at k d x rest) (all_same_equal vs ws parts.0) ∙ ap (instance_at k d ws) (same_objects_equal rest others parts.1)))
  same_objects_equal (elements_at r t vs rest) (elements_at k u ws others) h =
      let hs = and_parts (r == k) (same_type t u && (all_same vs ws && same_objects rest others)) h in
      let are = and_parts (same_type t u) (all_same vs ws && same_objects rest others) hs.1 in
      let parts = and_parts (all_same vs ws) (same_objects rest others) are.1 in
      ap (λ x. elements_at x t vs rest) (eqb-true r k hs.0) ∙ (ap (λ x. elements_at k x vs rest) (same_type_equal t u are.0)
      ∙ (ap (λ x. elements_at k u x rest) (all_same_equal vs ws parts.0) ∙ ap (elements_at k u ws) (same_objects_equal rest others parts.1)))
  same_objects_equal a b h = cc

number_self : (a : _) → int_eq a a ≡ true
number_self a = grind (arith, ints)

mutual
  pub same_self : (v : Value) → same v v ≡ true
  same_self NullReference = refl
  same_self (Truth true) = refl
  same_self (Truth false) = refl
  same_self (Character a) = equal_self a
  same_self (Number a) = number_self a
  same_self (Reference a) = equal_self a
  same_self (Made a vs) = and_from (a == a) (all_same vs vs) (equal_self a) (all_same_self vs)
  same_self (Sequence vs) = all_same_self vs
  same_self (Collection vs) = all_same_self vs
  same_self (Memory a) = same_objects_self a

  pub all_same_self : (vs : Values) → all_same vs vs ≡ true
  all_same_self no_value = refl
  all_same_self (value v vs) = and_from (same v v) (all_same vs vs) (same_self v) (all_same_self vs)

  pub same_objects_self : (a : Objects) → same_objects a a ≡ true
  same_objects_self no_object = refl
  same_objects_self (instance_at r c vs rest) = and_from (r == r) _ (equal_self r) (and_from (c == c) _ (equal_self c) (and_from (all_same vs vs) _ (all_same_self vs) (same_objects_self rest)))
  same_objects_self (elements_at r t vs rest) = and_from (r == r) _ (equal_self r) (and_from (same_type t t) _ (same_type_self t) (and_from (all_same vs vs) _ (all_same_self vs) (same_objects_self rest)))

pub turned : (v w : Value) → same v w ≡ true → same w v ≡ true
turned v w h = let e = same_equal v w h in subst (λ x. same w x ≡ true) (sym e) (subst (λ x. same x w ≡ true) e h)

-- ---- one of two values precedes the other, or they are the same

number_total : (a b : _) → int_lt a b ≡ false → int_eq a b ≡ false → int_lt b a ≡ true
number_total a b h k = grind (arith, ints)

nat_total : (a b : ℕ) → nat_lt a b ≡ false → (a == b) ≡ false → nat_lt b a ≡ true
nat_total a b h k = grind arith

truth_total : (a b : Bool) → (not a && b) ≡ false → same_truth a b ≡ false → (not b && a) ≡ true
truth_total true true h k = cc
truth_total true false h k = refl
truth_total false true h k = cc
truth_total false false h k = cc

neither : (a b : Bool) → (a || b) ≡ false → (a ≡ false) × (b ≡ false)
neither true b h = cc
neither false b h = (refl, h)

not_both : (a b : Bool) → a ≡ true → (a && b) ≡ false → b ≡ false
not_both true b e h = h
not_both false b e h = cc

first_true : (a b : Bool) → a ≡ true → (a || b) ≡ true
first_true true b h = refl
first_true false b h = cc

second_true : (a b : Bool) → b ≡ true → (a || b) ≡ true
second_true true b h = refl
second_true false b h = h

made_total : (a b : ℕ) (p q r e : Bool) → (a == b) ≡ e → nat_lt a b ≡ false → (e && p) ≡ false → (e && q) ≡ false → (p ≡ false → q ≡ false → r ≡ true) → (nat_lt b a || ((b == a) && r)) ≡ true
made_total a b p q r true e h i j k = second_true (nat_lt b a) _ (and_from (b == a) r (subst (λ x. (x == a) ≡ true) (eqb-true a b e) (equal_self a)) (k i j))
made_total a b p q r false e h i j k = first_true (nat_lt b a) _ (nat_total a b h e)

by_first : (vs ws : Values) (v w : Value) (e : Bool) → same v w ≡ e → precedes v w ≡ false → (e && list_precedes vs ws) ≡ false → (e && all_same vs ws) ≡ false
    → (same v w ≡ false → precedes w v ≡ true) → (list_precedes vs ws ≡ false → all_same vs ws ≡ false → list_precedes ws vs ≡ true)
    → (precedes w v || (same w v && list_precedes ws vs)) ≡ true
by_first vs ws v w true e h i j k l = second_true (precedes w v) _ (and_from (same w v) (list_precedes ws vs) (turned v w e) (l i j))
by_first vs ws v w false e h i j k l = first_true (precedes w v) _ (k e)

mutual
  pub total : (v w : Value) → precedes v w ≡ false → same v w ≡ false → precedes w v ≡ true
  total (Truth a) (Truth b) h k = truth_total a b h k
  total (Character a) (Character b) h k = nat_total a b h k
  total (Number a) (Number b) h k = number_total a b h k
  total (Reference a) (Reference b) h k = nat_total a b h k
  total (Made a vs) (Made b ws) h k = made_total a b (list_precedes vs ws) (all_same vs ws) (list_precedes ws vs) (a == b) refl (neither (nat_lt a b) _ h).0 (neither (nat_lt a b) _ h).1 k (list_total vs ws)
  total (Sequence vs) (Sequence ws) h k = list_total vs ws h k
  total (Collection vs) (Collection ws) h k = list_total vs ws h k
  total NullReference NullReference h k = cc
  total (Memory a) (Memory b) h k = cc
  total v w h k = nat_total (rank_of v) (rank_of w) h refl

  list_total : (vs ws : Values) → list_precedes vs ws ≡ false → all_same vs ws ≡ false → list_precedes ws vs ≡ true
  list_total no_value no_value h k = cc
  list_total no_value (value w ws) h k = cc
  list_total (value v vs) no_value h k = refl
  list_total (value v vs) (value w ws) h k =
      let hs = neither (precedes v w) (same v w && list_precedes vs ws) h in
      by_first vs ws v w (same v w) refl hs.0 hs.1 k (total v w hs.0) (list_total vs ws)

-- ---- sets ascend

inserted_ascends : (v : Value) (ws : List Value) → is_ascending (values_of ws) ≡ true → is_ascending (values_of (insert v ws)) ≡ true
inserted_ascends v [] h = refl
inserted_ascends v (w ∷ ws) h = by_order (precedes v w) (same v w) refl refl (inserted_ascends v ws (and_parts (precedes_first w (values_of ws)) (is_ascending (values_of ws)) h).1)
  where
    first_inserted : (us : List Value) → precedes w v ≡ true → precedes_first w (values_of us) ≡ true → precedes_first w (values_of (insert v us)) ≡ true
    first_inserted [] e k = e
    first_inserted (u ∷ us) e k = by_choice (precedes v u) (same v u)
      where
        by_choice : (b c : Bool) → precedes_first w (values_of (if b then v ∷ u ∷ us else (if c then u ∷ us else u ∷ insert v us))) ≡ true
        by_choice true c = e
        by_choice false true = k
        by_choice false false = k

    by_order : (b c : Bool) → precedes v w ≡ b → same v w ≡ c → is_ascending (values_of (insert v ws)) ≡ true → is_ascending (values_of (if b then v ∷ w ∷ ws else (if c then w ∷ ws else w ∷ insert v ws))) ≡ true
    by_order true c e k again = and_from (precedes v w) (is_ascending (values_of (w ∷ ws))) e h
    by_order false true e k again = h
    by_order false false e k again =
        and_from (precedes_first w (values_of (insert v ws))) (is_ascending (values_of (insert v ws)))
        (first_inserted ws (total v w e k) (and_parts (precedes_first w (values_of ws)) (is_ascending (values_of ws)) h).0) again

pub ascending_ascends : (vs : List Value) → is_ascending (values_of (ascending vs)) ≡ true
ascending_ascends [] = refl
ascending_ascends (v ∷ vs) = inserted_ascends v (ascending vs) (ascending_ascends vs)
