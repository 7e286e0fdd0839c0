-- Congruence: terms in one class have one value, so a clause that it closes holds.
use Rattle.std.proofs.Common.{◌≡◌, ℕ, zero, suc, ℤ, ◌<◌, Bool, true, false, not, ◌&&◌, List, [], ◌∷◌, ◌++◌, map, length, Contains, Option, Some, None, slice_get, nat_lt, refl, sym, ap, subst, ◌∙◌, arith, append_assoc, if◌then◌else◌}
use Rattle.std.specs.Option.{option_and_then}
use Rattle.std.specs.List.{AllZip, AllByRecursion, cons_option}
use Rattle.std.proofs.lemmas.Bool.{and_parts, ltb-true, eqb-true}
use Rattle.std.proofs.lemmas.Option.{same_Some}
use Rattle.std.proofs.lemmas.Bool.Decides.{Decides-int_eq}
use Rattle.df_lemmas.proofs.Numbers.{equal_self}
use Rattle.df_lemmas.proofs.Alls.{all_joined, all_at, none_there}
use Rattle.df_lemmas.proofs.Lists.{get_below}
use Rattle.df_form.specs.World.{World}
use Rattle.df_meaning.specs.Value.{Value, Truth, Character, Number, Text, number_of, truth_of, same_truth, same_value}
use Rattle.df_form.specs.declared.log.Lit.{Lit}
use Rattle.df_form.specs.declared.log.Pair.{Pair}
use Rattle.df_form.specs.declared.node.Sort.{Sort}
use Rattle.df_form.specs.declared.node.Sort.TheVariants as sorts
use Rattle.df_form.specs.declared.node.Op.{Op}
use Rattle.df_form.specs.declared.node.Op.TheVariants as ops
use Rattle.df_form.specs.Node.{Node}
use Rattle.df_form.specs.Sorting.{sort_of}
use Rattle.df_form.specs.Truth.{Assignment, has_sort, apply, truth}
use Rattle.df_form.specs.Clause.{Clause, yes, no, negation, literal_truth}
use Rattle.df_form.proofs.Sorts.{apply_sorted}
use Rattle.df_form.proofs.Values.{AreSorted, worth, value_is}
use Rattle.df_row.specs.Row.{literal_number, number_of_op}
use Rattle.df_rules.specs.Classes.{InOneClass}
use Rattle.df_rules.specs.Congruence.{sides_of, equality, negative_equality, negative_equalities, IsCongruent, AreCongruent, Closes, equals, opposites, numbers}
use Rattle.df_rules.specs.CongruenceLine.{congruence_line}
use Rattle.df_rules.proofs.OneClass.{least}
use Rattle.df_rules.proofs.Congruences.{line_is}
use Rattle.df_rules.proofs.SoundClauses.{Holds, is_held, AllPass, holds_unless, same_truth_is}
use Rattle.df_rules.proofs.SoundConnectives.{each_below}

same_value_is : (a b : Value) → same_value a b ≡ true → a ≡ b
same_value_is (Truth a) (Truth b) e = ap Truth (same_truth_is a b e)
same_value_is (Character a) (Character b) e = ap Character (eqb-true a b e)
same_value_is (Number a) (Number b) e = ap Number ((Decides-int_eq a b).0 e)
same_value_is a b e = absurd cc

-- no text
abbrev is_plain : Value → Bool
is_plain (Text characters) = false
is_plain v = true

abbrev IsPlain : Value → Type 0
IsPlain v = is_plain v ≡ true

sorted_plain : (sort : Sort) (v : Value) → has_sort sort v ≡ true → IsPlain v
sorted_plain sorts.Truth (Truth b) e = refl
sorted_plain sorts.Number (Number n) e = refl
sorted_plain sorts.Character (Character c) e = refl
sorted_plain sort v e = absurd cc

plain_same : (v : Value) → IsPlain v → same_value v v ≡ true
plain_same (Number z) e = (Decides-int_eq z z).1 refl
plain_same (Truth true) e = refl
plain_same (Truth false) e = refl
plain_same (Character c) e = equal_self c
plain_same (Text characters) e = absurd cc

-- the sides of an equality by its node
sides_are : (op : Op) (parts : List ℕ) (pair : Pair) → sides_of op parts ≡ Some pair → (op ≡ ops.Equal) × (parts ≡ pair.left ∷ pair.right ∷ [])
sides_are ops.Equal (a ∷ b ∷ []) pair e = let same = same_Some (record { left = a; right = b }) pair e in (refl, λ i. (same i).left ∷ (same i).right ∷ [])
sides_are op parts pair e = absurd cc

module _ (depth : ℕ) (world : World) (assignment : Assignment) (nodes : List Node) (sorted : AreSorted nodes) where
  abbrev value : ℕ → Value
  value n = worth depth world assignment nodes n

  abbrev AreEqual : List Pair → Type 0
  AreEqual pairs = AllByRecursion (λ (pair : Pair). value pair.left ≡ value pair.right) pairs

  in_class : (pairs : List Pair) → AreEqual pairs → (a b : ℕ) → InOneClass pairs a b → value a ≡ value b
  in_class pairs all = least value pairs (λ pair there. all_at (λ (pair : Pair). value pair.left ≡ value pair.right) pairs pair all there)

  zipped_values : (pairs : List Pair) → AreEqual pairs → (xs ys : List ℕ) → AllZip (InOneClass pairs) xs ys → map value xs ≡ map value ys
  zipped_values pairs all [] [] zip = refl
  zipped_values pairs all [] (y ∷ ys) zip = absurd zip
  zipped_values pairs all (x ∷ xs) [] zip = absurd zip
  zipped_values pairs all (x ∷ xs) (y ∷ ys) zip = λ i. in_class pairs all x y zip.0 i ∷ zipped_values pairs all xs ys zip.1 i

  congruent_equal : (pairs : List Pair) (pair : Pair) → AreEqual pairs → IsCongruent nodes pairs pair → value pair.left ≡ value pair.right
  congruent_equal pairs pair all h =
      value_is depth world assignment nodes pair.left h.first sorted h.left
      ∙ (λ i. apply depth world assignment (h.op i) (zipped_values pairs all h.first.parts h.second.parts h.parts i))
      ∙ sym (value_is depth world assignment nodes pair.right h.second sorted h.right)

  all_equal : (before pairs : List Pair) → AreEqual before → AreCongruent nodes before pairs → AreEqual (before ++ pairs)
  all_equal before [] all h = all_joined (λ (pair : Pair). value pair.left ≡ value pair.right) before [] all tt
  all_equal before (pair ∷ others) all h =
      let one : AreEqual (before ++ pair ∷ []) = all_joined (λ (pair : Pair). value pair.left ≡ value pair.right) before (pair ∷ []) all (congruent_equal before pair all h.0, tt) in
      subst AreEqual (append_assoc before (pair ∷ []) others) (all_equal (before ++ pair ∷ []) others one h.1)

  -- the truth of an equality
  equality_there : (n : ℕ) (pair : Pair) → equality nodes n ≡ Some pair → slice_get nodes n ≡ Some (record { op = ops.Equal; parts = pair.left ∷ pair.right ∷ [] })
  equality_there n pair e = by (slice_get nodes n) refl e
    where
      by : (o : Option Node) → slice_get nodes n ≡ o → option_and_then (λ (node : Node). sides_of node.op node.parts) o ≡ Some pair → slice_get nodes n ≡ Some (record { op = ops.Equal; parts = pair.left ∷ pair.right ∷ [] })
      by None at e = absurd cc
      by (Some node) at e = let are = sides_are node.op node.parts pair e in at ∙ (λ i. Some (record { op = are.0 i; parts = are.1 i }))

  equality_truth : (n : ℕ) (pair : Pair) → equality nodes n ≡ Some pair → truth depth world assignment nodes n ≡ same_value (value pair.left) (value pair.right)
  equality_truth n pair e = ap truth_of (value_is depth world assignment nodes n (record { op = ops.Equal; parts = pair.left ∷ pair.right ∷ [] }) sorted (equality_there n pair e))

  negatives_equal : (clause : Clause) → AllPass (is_held depth world assignment nodes) (map negation clause) → AreEqual (negative_equalities nodes clause)
  negatives_equal [] all = tt
  negatives_equal (l ∷ others) all = by l.positive refl (equality nodes l.node) refl (negatives_equal others all.1)
    where
      held : literal_truth (truth depth world assignment nodes) (negation l) ≡ true
      held = (and_parts (nat_lt l.node (length nodes)) (literal_truth (truth depth world assignment nodes) (negation l)) all.0).1

      by : (p : Bool) → l.positive ≡ p → (o : Option Pair) → equality nodes l.node ≡ o → AreEqual (negative_equalities nodes others) → AreEqual (cons_option (negative_equality nodes l) (negative_equalities nodes others))
      by true e o is rest = subst (λ (b : Bool). AreEqual (cons_option (if b then None else equality nodes l.node) (negative_equalities nodes others))) (sym e) rest
      by false e None is rest =
          subst (λ (b : Bool). AreEqual (cons_option (if b then None else equality nodes l.node) (negative_equalities nodes others))) (sym e)
          (subst (λ (o : Option Pair). AreEqual (cons_option o (negative_equalities nodes others))) (sym is) rest)
      by false e (Some pair) is rest =
          let yes_is : truth depth world assignment nodes l.node ≡ true = ap (λ b. same_truth (not b) (truth depth world assignment nodes l.node)) (sym e) ∙ held in
          let equal = same_value_is (value pair.left) (value pair.right) (sym (equality_truth l.node pair is) ∙ yes_is) in
          subst (λ (b : Bool). AreEqual (cons_option (if b then None else equality nodes l.node) (negative_equalities nodes others))) (sym e)
          (subst (λ (o : Option Pair). AreEqual (cons_option o (negative_equalities nodes others))) (sym is) (equal, rest))

  negated : (clause : Clause) (l : Lit) → AllPass (is_held depth world assignment nodes) (map negation clause) → Contains clause l → literal_truth (truth depth world assignment nodes) (negation l) ≡ true
  negated [] l all there = absurd (none_there l there)
  negated (first ∷ others) l all (zero, lt, e) =
      subst (λ (m : Lit). literal_truth (truth depth world assignment nodes) (negation m) ≡ true) e
      (and_parts (nat_lt first.node (length nodes)) (literal_truth (truth depth world assignment nodes) (negation first)) all.0).1
  negated (first ∷ others) l all (suc k, lt, e) = negated others l all.1 (k, omega (arith, lt), e)

  value_plain : (n : ℕ) → n < length nodes → IsPlain (value n)
  value_plain n lt =
      let there = get_below nodes n lt in
      subst IsPlain (sym (value_is depth world assignment nodes n there.0 sorted there.1)) (sorted_plain (sort_of there.0.op) (apply depth world assignment there.0.op (map value there.0.parts)) (apply_sorted depth world assignment there.0.op (map value there.0.parts)))

  -- the left side of an equality stands there too
  left_below : (n : ℕ) (pair : Pair) → equality nodes n ≡ Some pair → pair.left < length nodes
  left_below n pair e =
      let parts = and_parts (nat_lt pair.left (length nodes)) (nat_lt pair.right (length nodes) && true)
      (each_below depth world assignment nodes n (record { op = ops.Equal; parts = pair.left ∷ pair.right ∷ [] }) sorted (equality_there n pair e)) in
      ltb-true pair.left (length nodes) parts.0

  literal_value : (n : ℕ) (k : ℤ) → literal_number (slice_get nodes n) ≡ Some k → value n ≡ Number k
  literal_value n k e = by (slice_get nodes n) refl e
    where
      by_op : (op : Op) (parts : List ℕ) → slice_get nodes n ≡ Some (record { op = op; parts = parts }) → number_of_op op ≡ Some k → value n ≡ Number k
      by_op (ops.Number j) parts at e = value_is depth world assignment nodes n (record { op = ops.Number j; parts = parts }) sorted at ∙ ap Number (same_Some j k e)
      by_op op parts at e = absurd cc

      by : (o : Option Node) → slice_get nodes n ≡ o → literal_number o ≡ Some k → value n ≡ Number k
      by None at e = absurd cc
      by (Some node) at e = by_op node.op node.parts at e

  both_signs : (b : Bool) → b ≡ true → not b ≡ true → ⊥
  both_signs true e f = cc
  both_signs false e f = cc

  closing_false : (clause : Clause) (pairs : List Pair) → AreEqual pairs → AllPass (is_held depth world assignment nodes) (map negation clause) → Closes nodes clause pairs → ⊥
  closing_false clause pairs equal all (equals {n} {pair} there is h) =
      let same = in_class pairs equal pair.left pair.right h in
      let yes_is = equality_truth n pair is ∙ ap (same_value (value pair.left)) (sym same) ∙ plain_same (value pair.left) (value_plain pair.left (left_below n pair is)) in
      both_signs (truth depth world assignment nodes n) yes_is (negated clause (yes n) all there)
  closing_false clause pairs equal all (opposites {m} {n} there other h) =
      let same = ap truth_of (in_class pairs equal m n h) in
      both_signs (truth depth world assignment nodes n) (sym same ∙ negated clause (no m) all there) (negated clause (yes n) all other)
  closing_false clause pairs equal all (numbers {m} {n} {j} {k} at_m at_n apart h) = apart (ap number_of (sym (literal_value m j at_m) ∙ in_class pairs equal m n h ∙ literal_value n k at_n))

  pub congruence_holds : (conclusion clause : Clause) (pairs : List Pair) → congruence_line nodes conclusion pairs ≡ Some clause → Holds depth world assignment nodes clause
  congruence_holds conclusion clause pairs e =
      let is = line_is nodes conclusion pairs clause e in
      subst (Holds depth world assignment nodes) (sym is.0)
      (holds_unless depth world assignment nodes conclusion is.1.literals
      (λ all. closing_false conclusion (negative_equalities nodes conclusion ++ pairs) (all_equal (negative_equalities nodes conclusion) pairs (negatives_equal conclusion all) is.1.congruent) all is.1.closes))
