-- The schemas of numbers are sound.
use Rattle.std.proofs.Common.{◌≡◌, ℕ, ℤ, pos, negsuc, ◌+ℤ◌, ◌*ℤ◌, int_le, Bool, true, false, ◌||◌, List, [], ◌∷◌, refl, sym, ap, ◌∙◌, subst}
use Rattle.std.specs.Ordering.{int_eq}
use Rattle.std.proofs.Math.IntN.{*ℤ_comm}
use Rattle.std.proofs.lemmas.Bool.{and_parts}
use Rattle.std.proofs.lemmas.Bool.Decides.{Decides-int_eq}
use Rattle.df_lemmas.proofs.Integers.{sum_times, times_twice}
use Rattle.df_form.specs.World.{World}
use Rattle.df_meaning.specs.Value.{Value, Truth, Character, Number, Text, number_of, truth_of, same_truth, same_value}
use Rattle.df_form.specs.declared.node.Sort.{Sort}
use Rattle.df_form.specs.declared.node.Sort.TheVariants as sorts
use Rattle.df_form.specs.Node.{same_sort}
use Rattle.df_form.specs.Sorting.{are_two}
use Rattle.df_form.specs.Truth.{Assignment, has_sort, value_at, number_at, quotient, remainder}
use Rattle.df_form.proofs.Same.{same_sort_equal}
use Rattle.df_form.proofs.Tested.{of_quotient, of_remainder}
use Rattle.df_axiom.specs.declared.table.TheConstants.{PARTS_OF_QUOTIENT, PARTS_OF_REMAINDER, REMAINDER_AT_LEAST, REMAINDER_BELOW, REMAINDER_BELOW_OPPOSITE, FACTORS_CHANGE, FACTORS_JOIN, FACTOR_GOES_IN, LITERAL_COMES_FIRST, PRODUCT_AT_LEAST, PRODUCTS_COMPARE}
use Rattle.df_axiom.specs.Template.{entry}
use Rattle.df_axiom.proofs.Facts.{AreOf, IsSound}
use Rattle.df_axiom.proofs.Division.{parts_of, remainder_from_zero, remainder_under, remainder_under_opposite}
use Rattle.df_axiom.proofs.Products.{product_from_zero, products_in_order}

-- ---- the tests of clauses, by the truths of their nodes

pub yes_one : (a : Bool) → a ≡ true → (same_truth true a || false) ≡ true
yes_one true e = refl
yes_one false e = e

pub no_yes : (a b : Bool) → (a ≡ true → b ≡ true) → (same_truth false a || (same_truth true b || false)) ≡ true
no_yes true true go = refl
no_yes true false go = go refl
no_yes false b go = refl

pub yes_no : (a b : Bool) → (b ≡ true → a ≡ true) → (same_truth true a || (same_truth false b || false)) ≡ true
yes_no true b go = refl
yes_no false true go = go refl
yes_no false false go = refl

pub yes_yes : (a b : Bool) → (a ≡ false → b ≡ true) → (same_truth true a || (same_truth true b || false)) ≡ true
yes_yes true b go = refl
yes_yes false true go = refl
yes_yes false false go = go refl

pub no_no_yes : (a b c : Bool) → (a ≡ true → b ≡ true → c ≡ true) → (same_truth false a || (same_truth false b || (same_truth true c || false))) ≡ true
no_no_yes true true true go = refl
no_no_yes true true false go = go refl refl
no_no_yes true false c go = refl
no_no_yes false b c go = refl

pub yes_no_no : (a b c : Bool) → (b ≡ true → c ≡ true → a ≡ true) → (same_truth true a || (same_truth false b || (same_truth false c || false))) ≡ true
yes_no_no true b c go = refl
yes_no_no false true true go = go refl refl
yes_no_no false true false go = refl
yes_no_no false false c go = refl

-- ---- values of operations

pub number_of_two : (f : ℤ → ℤ → ℤ) (v l r : Value) (m n : ℤ) → v ≡ Number (f (number_of l) (number_of r)) → l ≡ Number m → r ≡ Number n → v ≡ Number (f m n)
number_of_two f v l r m n e p q = e ∙ (λ i. Number (f (number_of (p i)) (number_of (q i))))

pub equal_truth : (v l r : Value) (m n : ℤ) → v ≡ Truth (same_value l r) → l ≡ Number m → r ≡ Number n → truth_of v ≡ int_eq m n
equal_truth v l r m n e p q = ap truth_of e ∙ (λ i. same_value (p i) (q i))

pub at_most_truth : (v l r : Value) (m n : ℤ) → v ≡ Truth (int_le (number_of l) (number_of r)) → l ≡ Number m → r ≡ Number n → truth_of v ≡ int_le m n
at_most_truth v l r m n e p q = ap truth_of e ∙ (λ i. int_le (number_of (p i)) (number_of (q i)))

pub same_numbers : (m n : ℤ) → m ≡ n → int_eq m n ≡ true
same_numbers m n e = (Decides-int_eq m n).1 e

pub a_number : (v : Value) → has_sort sorts.Number v ≡ true → (k : ℤ) × (v ≡ Number k)
a_number (Number k) e = (k, refl)
a_number (Truth b) e = absurd cc
a_number (Character c) e = absurd cc
a_number (Text t) e = absurd cc

pub sorted_number : (s : Sort) (v : Value) → same_sort s sorts.Number ≡ true → has_sort s v ≡ true → (k : ℤ) × (v ≡ Number k)
sorted_number s v same e = a_number v (subst (λ (z : Sort). has_sort z v ≡ true) (same_sort_equal s sorts.Number same) e)

-- the values of two numbers
pub record AreTwo (vs : List Value) : Type 0 where
  pub m : ℤ
  pub n : ℤ
  pub are : vs ≡ Number m ∷ Number n ∷ []

pub two_numbers : (ss : List Sort) (vs : List Value) → are_two sorts.Number ss ≡ true → AreOf ss vs → AreTwo vs
two_numbers (s ∷ t ∷ []) (v ∷ u ∷ []) taken zip =
    let both = and_parts (same_sort s sorts.Number) (same_sort t sorts.Number) taken in
    let first = sorted_number s v both.0 zip.0 in
    let second = sorted_number t u both.1 zip.1.0 in
    record { m = first.0; n = second.0; are = λ i. first.1 i ∷ second.1 i ∷ [] }
two_numbers (s ∷ t ∷ []) [] taken zip = absurd zip
two_numbers (s ∷ t ∷ []) (v ∷ []) taken zip = absurd zip.1
two_numbers (s ∷ t ∷ []) (v ∷ u ∷ x ∷ others) taken zip = absurd zip.1.1
two_numbers [] vs taken zip = absurd cc
two_numbers (s ∷ []) vs taken zip = absurd cc
two_numbers (s ∷ t ∷ r ∷ others) vs taken zip = absurd cc

-- an operation on two numbers, and the numbers
pub record Whole (f : ℤ → ℤ → ℤ) (v left right : Value) : Type 0 where
  pub m : ℤ
  pub n : ℤ
  pub whole : v ≡ Number (f m n)
  pub left_is : left ≡ Number m
  pub right_is : right ≡ Number n

pub whole_of : (f : ℤ → ℤ → ℤ) (v left right : Value) (ss : List Sort) (vs : List Value) → v ≡ Number (f (number_at vs 0) (number_at vs 1)) → are_two sorts.Number ss ≡ true → AreOf ss vs → left ≡ value_at vs 0 → right ≡ value_at vs 1 → Whole f v left right
whole_of f v left right ss vs e taken zip p q =
    let two = two_numbers ss vs taken zip in
    record {
      m = two.m;
      n = two.n;
      whole = e ∙ ap (λ (us : List Value). Number (f (number_at us 0) (number_at us 1))) two.are;
      left_is = p ∙ ap (λ (us : List Value). value_at us 0) two.are;
      right_is = q ∙ ap (λ (us : List Value). value_at us 1) two.are;
    }

abbrev plus : ℤ → ℤ → ℤ
plus x y = x +ℤ y

abbrev times : ℤ → ℤ → ℤ
times x y = x *ℤ y

module _ (depth : ℕ) (world : World) (assignment : Assignment) where
  pub quotient_sound : IsSound depth world assignment (entry PARTS_OF_QUOTIENT).template
  quotient_sound w ps ss pieces same needed =
      let t = whole_of quotient (w 0) (w 1) (w 2) (ss 0) (ps 0) pieces.1.0 (of_quotient (ss 0) pieces.1.1) pieces.1.2 pieces.2.0 pieces.2.2.0 in
      let zero_test = equal_truth (w 4) (w 2) (w 3) t.n (pos 0) needed.1.0 t.right_is needed.0 in
      let w5 = number_of_two times (w 5) (w 2) (w 0) t.n (quotient t.m t.n) needed.1.1.0 t.right_is t.whole in
      let w6 = number_of_two remainder (w 6) (w 1) (w 2) t.m t.n needed.1.1.1.0 t.left_is t.right_is in
      let w7 = number_of_two plus (w 7) (w 5) (w 6) (t.n *ℤ quotient t.m t.n) (remainder t.m t.n) needed.1.1.1.1.0 w5 w6 in
      let w8 = equal_truth (w 8) (w 1) (w 7) t.m ((t.n *ℤ quotient t.m t.n) +ℤ remainder t.m t.n) needed.1.1.1.1.1.0 t.left_is w7 in
      yes_yes (truth_of (w 4)) (truth_of (w 8)) (λ none. w8 ∙ same_numbers t.m ((t.n *ℤ quotient t.m t.n) +ℤ remainder t.m t.n) (parts_of t.m t.n (sym zero_test ∙ none)))

  pub remainder_sound : IsSound depth world assignment (entry PARTS_OF_REMAINDER).template
  remainder_sound w ps ss pieces same needed =
      let t = whole_of remainder (w 0) (w 1) (w 2) (ss 0) (ps 0) pieces.1.0 (of_remainder (ss 0) pieces.1.1) pieces.1.2 pieces.2.0 pieces.2.2.0 in
      let zero_test = equal_truth (w 4) (w 2) (w 3) t.n (pos 0) needed.1.0 t.right_is needed.0 in
      let w5 = number_of_two quotient (w 5) (w 1) (w 2) t.m t.n needed.1.1.0 t.left_is t.right_is in
      let w6 = number_of_two times (w 6) (w 2) (w 5) t.n (quotient t.m t.n) needed.1.1.1.0 t.right_is w5 in
      let w7 = number_of_two plus (w 7) (w 6) (w 0) (t.n *ℤ quotient t.m t.n) (remainder t.m t.n) needed.1.1.1.1.0 w6 t.whole in
      let w8 = equal_truth (w 8) (w 1) (w 7) t.m ((t.n *ℤ quotient t.m t.n) +ℤ remainder t.m t.n) needed.1.1.1.1.1.0 t.left_is w7 in
      yes_yes (truth_of (w 4)) (truth_of (w 8)) (λ none. w8 ∙ same_numbers t.m ((t.n *ℤ quotient t.m t.n) +ℤ remainder t.m t.n) (parts_of t.m t.n (sym zero_test ∙ none)))

  pub at_least_sound : IsSound depth world assignment (entry REMAINDER_AT_LEAST).template
  at_least_sound w ps ss pieces same needed =
      let t = whole_of remainder (w 0) (w 1) (w 2) (ss 0) (ps 0) pieces.1.0 (of_remainder (ss 0) pieces.1.1) pieces.1.2 pieces.2.0 pieces.2.2.0 in
      let zero_test = equal_truth (w 4) (w 2) (w 3) t.n (pos 0) needed.1.0 t.right_is needed.0 in
      let w5 = at_most_truth (w 5) (w 3) (w 0) (pos 0) (remainder t.m t.n) needed.1.1.0 needed.0 t.whole in
      yes_yes (truth_of (w 4)) (truth_of (w 5)) (λ none. w5 ∙ remainder_from_zero t.m t.n (sym zero_test ∙ none))

  pub below_sound : IsSound depth world assignment (entry REMAINDER_BELOW).template
  below_sound w ps ss pieces same needed =
      let t = whole_of remainder (w 0) (w 1) (w 2) (ss 0) (ps 0) pieces.1.0 (of_remainder (ss 0) pieces.1.1) pieces.1.2 pieces.2.0 pieces.2.2.0 in
      let w4 = at_most_truth (w 4) (w 3) (w 2) (pos 1) t.n needed.1.0 needed.0 t.right_is in
      let w5 = number_of_two plus (w 5) (w 0) (w 3) (remainder t.m t.n) (pos 1) needed.1.1.0 t.whole needed.0 in
      let w6 = at_most_truth (w 6) (w 5) (w 2) (remainder t.m t.n +ℤ pos 1) t.n needed.1.1.1.0 w5 t.right_is in
      no_yes (truth_of (w 4)) (truth_of (w 6)) (λ at_least. w6 ∙ remainder_under t.m t.n (sym w4 ∙ at_least))

  pub below_opposite_sound : IsSound depth world assignment (entry REMAINDER_BELOW_OPPOSITE).template
  below_opposite_sound w ps ss pieces same needed =
      let t = whole_of remainder (w 0) (w 1) (w 2) (ss 0) (ps 0) pieces.1.0 (of_remainder (ss 0) pieces.1.1) pieces.1.2 pieces.2.0 pieces.2.2.0 in
      let w4 = at_most_truth (w 4) (w 2) (w 3) t.n (negsuc 0) needed.1.0 t.right_is needed.0 in
      let w6 = number_of_two plus (w 6) (w 0) (w 5) (remainder t.m t.n) (pos 1) needed.1.1.1.0 t.whole needed.1.1.0 in
      let w7 = number_of_two times (w 7) (w 3) (w 2) (negsuc 0) t.n needed.1.1.1.1.0 needed.0 t.right_is in
      let w8 = at_most_truth (w 8) (w 6) (w 7) (remainder t.m t.n +ℤ pos 1) (negsuc 0 *ℤ t.n) needed.1.1.1.1.1.0 w6 w7 in
      no_yes (truth_of (w 4)) (truth_of (w 8)) (λ at_most. w8 ∙ remainder_under_opposite t.m t.n (sym w4 ∙ at_most))

  pub change_sound : IsSound depth world assignment (entry FACTORS_CHANGE).template
  change_sound w ps ss pieces same needed =
      let t = whole_of times (w 0) (w 1) (w 2) (ss 0) (ps 0) pieces.1.0 pieces.1.1 pieces.1.2 pieces.2.0 pieces.2.2.0 in
      let w3 = number_of_two times (w 3) (w 2) (w 1) t.n t.m needed.0 t.right_is t.left_is in
      let w4 = equal_truth (w 4) (w 0) (w 3) (t.m *ℤ t.n) (t.n *ℤ t.m) needed.1.0 t.whole w3 in
      yes_one (truth_of (w 4)) (w4 ∙ same_numbers (t.m *ℤ t.n) (t.n *ℤ t.m) (*ℤ_comm t.m t.n))

  -- (x * y) * z: the product is place 0, x * y is 1, x is 2, y is 3, z is 4
  pub join_sound : IsSound depth world assignment (entry FACTORS_JOIN).template
  join_sound w ps ss pieces same needed =
      let inside = pieces.2 in
      let x = inside.2 in
      let y = x.2 in
      let z = y.2 in
      let t = whole_of times (w 0) (w 1) (w 4) (ss 0) (ps 0) pieces.1.0 pieces.1.1 pieces.1.2 inside.0 z.0 in
      let u = whole_of times (w 1) (w 2) (w 3) (ss 1) (ps 1) inside.1.0 inside.1.1 inside.1.2 x.0 y.0 in
      let w0 = number_of_two times (w 0) (w 1) (w 4) (u.m *ℤ u.n) t.n (t.whole ∙ (λ i. Number (number_of (sym t.left_is i) *ℤ number_of (sym t.right_is i)))) u.whole t.right_is in
      let w5 = number_of_two times (w 5) (w 3) (w 4) u.n t.n needed.0 u.right_is t.right_is in
      let w6 = number_of_two times (w 6) (w 2) (w 5) u.m (u.n *ℤ t.n) needed.1.0 u.left_is w5 in
      let w7 = equal_truth (w 7) (w 0) (w 6) ((u.m *ℤ u.n) *ℤ t.n) (u.m *ℤ (u.n *ℤ t.n)) needed.1.1.0 w0 w6 in
      yes_one (truth_of (w 7)) (w7 ∙ same_numbers ((u.m *ℤ u.n) *ℤ t.n) (u.m *ℤ (u.n *ℤ t.n)) (times_twice u.m u.n t.n))

  -- x * (y + z): the product is place 0, x is 1, y + z is 2, y is 3, z is 4
  pub goes_in_sound : IsSound depth world assignment (entry FACTOR_GOES_IN).template
  goes_in_sound w ps ss pieces same needed =
      let x = pieces.2 in
      let inside = x.2 in
      let y = inside.2 in
      let z = y.2 in
      let t = whole_of times (w 0) (w 1) (w 2) (ss 0) (ps 0) pieces.1.0 pieces.1.1 pieces.1.2 x.0 inside.0 in
      let u = whole_of plus (w 2) (w 3) (w 4) (ss 2) (ps 2) inside.1.0 inside.1.1 inside.1.2 y.0 z.0 in
      let w0 = number_of_two times (w 0) (w 1) (w 2) t.m (u.m +ℤ u.n) (t.whole ∙ (λ i. Number (number_of (sym t.left_is i) *ℤ number_of (sym t.right_is i)))) t.left_is u.whole in
      let w5 = number_of_two times (w 5) (w 1) (w 3) t.m u.m needed.0 t.left_is u.left_is in
      let w6 = number_of_two times (w 6) (w 1) (w 4) t.m u.n needed.1.0 t.left_is u.right_is in
      let w7 = number_of_two plus (w 7) (w 5) (w 6) (t.m *ℤ u.m) (t.m *ℤ u.n) needed.1.1.0 w5 w6 in
      let w8 = equal_truth (w 8) (w 0) (w 7) (t.m *ℤ (u.m +ℤ u.n)) ((t.m *ℤ u.m) +ℤ (t.m *ℤ u.n)) needed.1.1.1.0 w0 w7 in
      yes_one (truth_of (w 8)) (w8 ∙ same_numbers (t.m *ℤ (u.m +ℤ u.n)) ((t.m *ℤ u.m) +ℤ (t.m *ℤ u.n)) (sum_times t.m u.m u.n))

  pub literal_sound : IsSound depth world assignment (entry LITERAL_COMES_FIRST).template
  literal_sound w ps ss pieces same needed = change_sound w ps ss (pieces.0, pieces.1, (pieces.2.0, tt, (pieces.2.2.0, tt, tt))) same needed

  pub product_sound : IsSound depth world assignment (entry PRODUCT_AT_LEAST).template
  product_sound w ps ss pieces same needed =
      let t = whole_of times (w 0) (w 1) (w 2) (ss 0) (ps 0) pieces.1.0 pieces.1.1 pieces.1.2 pieces.2.0 pieces.2.2.0 in
      let w4 = at_most_truth (w 4) (w 3) (w 1) (pos 0) t.m needed.1.0 needed.0 t.left_is in
      let w5 = at_most_truth (w 5) (w 3) (w 2) (pos 0) t.n needed.1.1.0 needed.0 t.right_is in
      let w6 = at_most_truth (w 6) (w 3) (w 0) (pos 0) (t.m *ℤ t.n) needed.1.1.1.0 needed.0 t.whole in
      no_no_yes (truth_of (w 4)) (truth_of (w 5)) (truth_of (w 6)) (λ left right. w6 ∙ product_from_zero t.m t.n (sym w4 ∙ left) (sym w5 ∙ right))

  -- x * z is place 0, x is 1, z is 2, y * z is 3, y is 4 and z again 5
  pub compare_sound : IsSound depth world assignment (entry PRODUCTS_COMPARE).template
  compare_sound w ps ss pieces same needed =
      let x = pieces.2 in
      let z = x.2 in
      let other = z.2 in
      let y = other.2 in
      let again = y.2 in
      let t = whole_of times (w 0) (w 1) (w 2) (ss 0) (ps 0) pieces.1.0 pieces.1.1 pieces.1.2 x.0 z.0 in
      let u = whole_of times (w 3) (w 4) (w 5) (ss 3) (ps 3) other.1.0 other.1.1 other.1.2 y.0 again.0 in
      let w3 = number_of_two times (w 3) (w 4) (w 5) u.m t.n (u.whole ∙ (λ i. Number (number_of (sym u.left_is i) *ℤ number_of (sym u.right_is i)))) u.left_is (sym same.0 ∙ t.right_is) in
      let w6 = at_most_truth (w 6) (w 1) (w 4) t.m u.m needed.0 t.left_is u.left_is in
      let w8 = at_most_truth (w 8) (w 7) (w 2) (pos 0) t.n needed.1.1.0 needed.1.0 t.right_is in
      let w9 = at_most_truth (w 9) (w 0) (w 3) (t.m *ℤ t.n) (u.m *ℤ t.n) needed.1.1.1.0 t.whole w3 in
      no_no_yes (truth_of (w 6)) (truth_of (w 8)) (truth_of (w 9)) (λ order least. w9 ∙ products_in_order t.m u.m t.n (sym w6 ∙ order) (sym w8 ∙ least))
