-- An operation on values gives the number that it gives on their numbers.
use Rattle.std.proofs.Common.{◌≡◌, ℕ, ℤ, pos, ◌+ℤ◌, ◌*ℤ◌, int_le, Bool, true, false, not, ◌&&◌, ◌||◌, nat_eq, arith, List, [], ◌∷◌, map, refl, sym, ap, ◌∙◌, subst, true≢false}
use Rattle.std.specs.List.{list_all, list_any}
use Rattle.std.specs.Ordering.{int_eq}
use Rattle.std.proofs.lemmas.Bool.{and_parts}
use Rattle.std.proofs.lemmas.Int.{ints}
use Rattle.df_lang.specs.declared.ty.Ty.{Ty}
use Rattle.df_lang.specs.declared.ty.Ty.TheVariants as types
use Rattle.df_form.specs.World.{World}
use Rattle.df_form.specs.Types.{sort_of_type, has_type}
use Rattle.df_meaning.specs.Value.{Value, Number, Truth, Character, Text, truth_of, number_of, same_truth, same_value}
use Rattle.df_form.specs.declared.node.Sort.{Sort}
use Rattle.df_form.specs.declared.node.Sort.TheVariants as sorts
use Rattle.df_form.specs.declared.node.Op.{Op}
use Rattle.df_form.specs.declared.node.Op.TheVariants as ops
use Rattle.df_form.specs.declared.symbol.Symbol.{Symbol}
use Rattle.df_form.specs.declared.symbol.Symbol.TheVariants as symbols
use Rattle.df_form.specs.declared.symbol.Payload.{Payload}
use Rattle.df_form.specs.declared.symbol.Payload.TheVariants as payloads
use Rattle.df_form.specs.declared.symbol.PayloadKind.TheVariants as kinds
use Rattle.df_form.specs.Symbol.{symbols as table, same_symbol, accepts}
use Rattle.df_form.specs.Node.{same_sort}
use Rattle.df_form.specs.Sorting.{is_one, are_two, are_two_values, are_each, takes}
use Rattle.df_form.specs.Truth.{Assignment, has_sort, value_at, quotient, remainder, code_in, applied as value_applied, apply}
use Rattle.df_form.proofs.Same.{same_sort_equal, values_alike}
use Rattle.df_form.proofs.Tested.{each_one, each_two, of_test}
use Rattle.df_table.specs.TableModel.{number_at}
use Rattle.df_model.specs.Valuation.{number_of_truth, number_of_value}
use Rattle.df_model.specs.Numbers.{counts_as_true, is_of_type, symbol_number, number_by}

pub number_is : (v : Value) → has_sort sorts.Number v ≡ true → number_of v ≡ number_of_value v
number_is (Number k) e = refl
number_is (Truth b) e = absurd cc
number_is (Character c) e = absurd cc
number_is (Text t) e = absurd cc

pub character_is : (v : Value) → has_sort sorts.Character v ≡ true → number_of v ≡ number_of_value v
character_is (Character c) e = refl
character_is (Number k) e = absurd cc
character_is (Truth b) e = absurd cc
character_is (Text t) e = absurd cc

pub one_is_true : (b : Bool) → b ≡ int_le (pos 1) (number_of_truth b)
one_is_true true = refl
one_is_true false = refl

pub truth_is : (v : Value) → has_sort sorts.Truth v ≡ true → truth_of v ≡ counts_as_true (number_of_value v)
truth_is (Truth b) e = one_is_true b
truth_is (Number k) e = absurd cc
truth_is (Character c) e = absurd cc
truth_is (Text t) e = absurd cc

same_bits : (a b : Bool) → same_truth a b ≡ int_eq (number_of_truth a) (number_of_truth b)
same_bits true true = refl
same_bits true false = refl
same_bits false true = refl
same_bits false false = refl

same_codes : (a b : ℕ) → nat_eq a b ≡ int_eq (pos a) (pos b)
same_codes a b = grind (arith, ints)

pub same_is : (sort : Sort) (v w : Value) → has_sort sort v ≡ true → has_sort sort w ≡ true → same_value v w ≡ int_eq (number_of_value v) (number_of_value w)
same_is sorts.Number (Number j) (Number k) e f = refl
same_is sorts.Number (Number j) (Truth b) e f = absurd cc
same_is sorts.Number (Number j) (Character c) e f = absurd cc
same_is sorts.Number (Number j) (Text t) e f = absurd cc
same_is sorts.Number (Truth b) w e f = absurd cc
same_is sorts.Number (Character c) w e f = absurd cc
same_is sorts.Number (Text t) w e f = absurd cc
same_is sorts.Truth (Truth a) (Truth b) e f = same_bits a b
same_is sorts.Truth (Truth a) (Number k) e f = absurd cc
same_is sorts.Truth (Truth a) (Character c) e f = absurd cc
same_is sorts.Truth (Truth a) (Text t) e f = absurd cc
same_is sorts.Truth (Number k) w e f = absurd cc
same_is sorts.Truth (Character c) w e f = absurd cc
same_is sorts.Truth (Text t) w e f = absurd cc
same_is sorts.Character (Character a) (Character b) e f = same_codes a b
same_is sorts.Character (Character a) (Number k) e f = absurd cc
same_is sorts.Character (Character a) (Truth b) e f = absurd cc
same_is sorts.Character (Character a) (Text t) e f = absurd cc
same_is sorts.Character (Number k) w e f = absurd cc
same_is sorts.Character (Truth b) w e f = absurd cc
same_is sorts.Character (Text t) w e f = absurd cc

pub type_is : (world : World) (ty : Ty) (v : Value) → has_sort (sort_of_type ty) v ≡ true → has_type world ty v ≡ is_of_type world ty (number_of_value v)
type_is world (types.Newtype number) (Number k) e = refl
type_is world types.Int (Number k) e = refl
type_is world types.Nat (Number k) e = refl
type_is world types.Bool (Truth b) e = refl
type_is world types.Char (Character c) e = e
type_is world (types.Newtype number) (Truth b) e = absurd cc
type_is world (types.Newtype number) (Character c) e = absurd cc
type_is world (types.Newtype number) (Text t) e = absurd cc
type_is world types.Int (Truth b) e = absurd cc
type_is world types.Int (Character c) e = absurd cc
type_is world types.Int (Text t) e = absurd cc
type_is world types.Nat (Truth b) e = absurd cc
type_is world types.Nat (Character c) e = absurd cc
type_is world types.Nat (Text t) e = absurd cc
type_is world types.Bool (Number k) e = absurd cc
type_is world types.Bool (Character c) e = absurd cc
type_is world types.Bool (Text t) e = absurd cc
type_is world types.Char (Number k) e = absurd cc
type_is world types.Char (Truth b) e = absurd cc
type_is world types.Char (Text t) e = absurd cc

-- Values of the numbers that pass a test, each of the sort of its number.
module _ (worth : ℕ → Value) (sort : ℕ → Sort) (test : ℕ → Bool) (sorted : (p : ℕ) → test p ≡ true → has_sort (sort p) (worth p) ≡ true) where
  abbrev num : ℕ → ℤ
  num p = number_of_value (worth p)

  has : (p : ℕ) (s : Sort) → test p ≡ true → same_sort (sort p) s ≡ true → has_sort s (worth p) ≡ true
  has p s passes same = subst (λ (z : Sort). has_sort z (worth p) ≡ true) (same_sort_equal (sort p) s same) (sorted p passes)

  a_number : (p : ℕ) → test p ≡ true → same_sort (sort p) sorts.Number ≡ true → number_of (worth p) ≡ num p
  a_number p passes same = number_is (worth p) (has p sorts.Number passes same)

  a_character : (p : ℕ) → test p ≡ true → same_sort (sort p) sorts.Character ≡ true → number_of (worth p) ≡ num p
  a_character p passes same = character_is (worth p) (has p sorts.Character passes same)

  a_truth : (p : ℕ) → test p ≡ true → same_sort (sort p) sorts.Truth ≡ true → truth_of (worth p) ≡ counts_as_true (num p)
  a_truth p passes same = truth_is (worth p) (has p sorts.Truth passes same)

  turned : (a b : Sort) → same_sort a b ≡ true → same_sort b a ≡ true
  turned sorts.Number sorts.Number e = refl
  turned sorts.Truth sorts.Truth e = refl
  turned sorts.Number sorts.Truth e = absurd cc
  turned sorts.Truth sorts.Number e = absurd cc
  turned sorts.Character sorts.Character e = refl
  turned sorts.Number sorts.Character e = absurd cc
  turned sorts.Truth sorts.Character e = absurd cc
  turned sorts.Character sorts.Number e = absurd cc
  turned sorts.Character sorts.Truth e = absurd cc

  all_truths : (parts : List ℕ) → list_all test parts ≡ true → list_all (same_sort sorts.Truth) (map sort parts) ≡ true → list_all truth_of (map worth parts) ≡ list_all counts_as_true (map num parts)
  all_truths [] passes same = refl
  all_truths (p ∷ parts) passes same =
      let h = and_parts (test p) (list_all test parts) passes in
      let s = and_parts (same_sort sorts.Truth (sort p)) (list_all (same_sort sorts.Truth) (map sort parts)) same in
      let first = a_truth p h.0 (turned sorts.Truth (sort p) s.0) in
      let rest = all_truths parts h.1 s.1 in
      λ i. first i && rest i

  any_truth : (parts : List ℕ) → list_all test parts ≡ true → list_all (same_sort sorts.Truth) (map sort parts) ≡ true → list_any truth_of (map worth parts) ≡ list_any counts_as_true (map num parts)
  any_truth [] passes same = refl
  any_truth (p ∷ parts) passes same =
      let h = and_parts (test p) (list_all test parts) passes in
      let s = and_parts (same_sort sorts.Truth (sort p)) (list_all (same_sort sorts.Truth) (map sort parts)) same in
      let first = a_truth p h.0 (turned sorts.Truth (sort p) s.0) in
      let rest = any_truth parts h.1 s.1 in
      λ i. first i || rest i

  two_numbers : (a b : ℕ) → (test a && (test b && true)) ≡ true → (same_sort (sort a) sorts.Number && same_sort (sort b) sorts.Number) ≡ true → (number_of (worth a) ≡ num a) × (number_of (worth b) ≡ num b)
  two_numbers a b passes same =
      let h = and_parts (test a) (test b && true) passes in
      let k = and_parts (test b) true h.1 in
      let s = and_parts (same_sort (sort a) sorts.Number) (same_sort (sort b) sorts.Number) same in
      (a_number a h.0 s.0, a_number b k.0 s.1)

  two_truths : (a b : ℕ) → (test a && (test b && true)) ≡ true → (same_sort (sort a) sorts.Truth && same_sort (sort b) sorts.Truth) ≡ true → (truth_of (worth a) ≡ counts_as_true (num a)) × (truth_of (worth b) ≡ counts_as_true (num b))
  two_truths a b passes same =
      let h = and_parts (test a) (test b && true) passes in
      let k = and_parts (test b) true h.1 in
      let s = and_parts (same_sort (sort a) sorts.Truth) (same_sort (sort b) sorts.Truth) same in
      (a_truth a h.0 s.0, a_truth b k.0 s.1)

  two_alike : (a b : ℕ) → (test a && (test b && true)) ≡ true → are_two_values (sort a ∷ sort b ∷ []) ≡ true → same_value (worth a) (worth b) ≡ int_eq (num a) (num b)
  two_alike a b passes same =
      let h = and_parts (test a) (test b && true) passes in
      let k = and_parts (test b) true h.1 in
      same_is (sort b) (worth a) (worth b) (subst (λ (z : Sort). has_sort z (worth a) ≡ true) (values_alike (sort a) (sort b) same) (sorted a h.0)) (sorted b k.0)

  two_first : (parts : List ℕ) → list_all test parts ≡ true → are_two sorts.Number (map sort parts) ≡ true → (number_of (value_at (map worth parts) 0) ≡ number_at (map num parts) 0) × (number_of (value_at (map worth parts) 1) ≡ number_at (map num parts) 1)
  two_first (a ∷ b ∷ []) passes same = two_numbers a b passes same
  two_first [] passes same = absurd cc
  two_first (a ∷ []) passes same = absurd cc
  two_first (a ∷ b ∷ c ∷ others) passes same = absurd cc

  one_first : (s : Sort) (parts : List ℕ) → list_all test parts ≡ true → is_one s (map sort parts) ≡ true → (has_sort s (value_at (map worth parts) 0) ≡ true) × (number_of_value (value_at (map worth parts) 0) ≡ number_at (map num parts) 0)
  one_first s (a ∷ []) passes same = (has a s (and_parts (test a) true passes).0 same, refl)
  one_first s [] passes same = absurd cc
  one_first s (a ∷ b ∷ others) passes same = absurd cc

  symbol_applied : (world : World) (symbol : Symbol) (payload : Payload) (parts : List ℕ) → list_all test parts ≡ true → takes (ops.Of symbol payload) (map sort parts) ≡ true
      → number_of_value (value_applied world symbol payload (map worth parts)) ≡ symbol_number world symbol payload (map num parts)
  unfolding table same_symbol
  symbol_applied world symbols.Div payload parts passes taken =
      let two = two_first parts passes (each_two sorts.Number (map sort parts) (and_parts (accepts kinds.Nothing payload) (are_each (sorts.Number ∷ sorts.Number ∷ []) (map sort parts)) taken).1) in
      λ i. quotient (two.0 i) (two.1 i)
  symbol_applied world symbols.Mod payload parts passes taken =
      let two = two_first parts passes (each_two sorts.Number (map sort parts) (and_parts (accepts kinds.Nothing payload) (are_each (sorts.Number ∷ sorts.Number ∷ []) (map sort parts)) taken).1) in
      λ i. remainder (two.0 i) (two.1 i)
  symbol_applied world symbols.Code payload parts passes taken =
      let one = one_first sorts.Character parts passes (each_one sorts.Character (map sort parts) (and_parts (accepts kinds.Nothing payload) (are_each (sorts.Character ∷ []) (map sort parts)) taken).1) in
      character_is (value_at (map worth parts) 0) one.0 ∙ one.1
  symbol_applied world symbols.Chr payload parts passes taken =
      let one = one_first sorts.Number parts passes (each_one sorts.Number (map sort parts) (and_parts (accepts kinds.Nothing payload) (are_each (sorts.Number ∷ []) (map sort parts)) taken).1) in
      ap (λ (z : ℤ). pos (code_in z)) (number_is (value_at (map worth parts) 0) one.0 ∙ one.1)
  symbol_applied world symbols.Is payloads.Nothing parts passes taken = absurd (true≢false (sym taken))
  symbol_applied world symbols.Is (payloads.Type ty) parts passes taken =
      let one = one_first (sort_of_type ty) parts passes (of_test ty (map sort parts) taken).1 in
      ap number_of_truth (type_is world ty (value_at (map worth parts) 0) one.0) ∙ ap (λ (z : ℤ). number_of_truth (is_of_type world ty z)) one.1

  module _ (depth : ℕ) (world : World) (assignment : Assignment) where
    pub applied : (op : Op) (parts : List ℕ) → list_all test parts ≡ true → takes op (map sort parts) ≡ true
        → number_of_value (apply depth world assignment op (map worth parts)) ≡ number_by world (λ free. number_of_value (assignment.value free)) op (map num parts)
    applied (ops.Number k) parts passes taken = refl
    applied (ops.Free free) parts passes taken = refl
    applied ops.Plus (a ∷ b ∷ []) passes taken = let two = two_numbers a b passes taken in λ i. two.0 i +ℤ two.1 i
    applied ops.Times (a ∷ b ∷ []) passes taken = let two = two_numbers a b passes taken in λ i. two.0 i *ℤ two.1 i
    applied (ops.Of symbol payload) parts passes taken = symbol_applied world symbol payload parts passes taken
    applied ops.Equal (a ∷ b ∷ []) passes taken = ap number_of_truth (two_alike a b passes taken)
    applied ops.AtMost (a ∷ b ∷ []) passes taken = let two = two_numbers a b passes taken in λ i. number_of_truth (int_le (two.0 i) (two.1 i))
    applied ops.Not (a ∷ []) passes taken = let one = a_truth a (and_parts (test a) true passes).0 taken in λ i. number_of_truth (not (one i))
    applied ops.And parts passes taken = ap number_of_truth (all_truths parts passes taken)
    applied ops.Or parts passes taken = ap number_of_truth (any_truth parts passes taken)
    applied ops.Implies (a ∷ b ∷ []) passes taken = let two = two_truths a b passes taken in λ i. number_of_truth (not (two.0 i) || two.1 i)
    applied ops.Iff (a ∷ b ∷ []) passes taken = let two = two_truths a b passes taken in λ i. number_of_truth (same_truth (two.0 i) (two.1 i))
    applied op parts passes taken = absurd cc
