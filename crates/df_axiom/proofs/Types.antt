-- The schema of types is sound.
use Rattle.std.proofs.Common.{◌≡◌, ℕ, zero, suc, ℤ, pos, int_le, Bool, true, false, ◌&&◌, nat_lt, List, [], ◌∷◌, Option, Some, refl, sym, ap, ◌∙◌, subst, true≢false}
use Rattle.std.specs.Option.{option_map_or}
use Rattle.std.proofs.lemmas.Bool.{and_parts, and_from}
use Rattle.std.proofs.lemmas.Option.{same_Some}
use Rattle.df_lemmas.proofs.Options.{then_some}
use Rattle.df_lang.specs.declared.ty.Ty.{Ty}
use Rattle.df_lang.specs.declared.ty.Ty.TheVariants as types
use Rattle.df_form.specs.World.{World, Ends, is_within, ends_at}
use Rattle.df_form.specs.Types.{has_type}
use Rattle.df_meaning.specs.Value.{Value, Truth, Character, Number, Text, truth_of}
use Rattle.df_form.specs.declared.node.Sort.{Sort}
use Rattle.df_form.specs.declared.node.Sort.TheVariants as sorts
use Rattle.df_form.specs.declared.node.Op.{Op}
use Rattle.df_form.specs.declared.node.Op.TheVariants as ops
use Rattle.df_form.specs.declared.symbol.Symbol.TheVariants as symbols
use Rattle.df_form.specs.declared.symbol.Payload.TheVariants as payloads
use Rattle.df_form.specs.Symbol.{is_testable}
use Rattle.df_form.specs.Types.{sort_of_type}
use Rattle.df_form.specs.Node.{test_of}
use Rattle.df_form.specs.Sorting.{is_one}
use Rattle.df_form.proofs.Tested.{of_test}
use Rattle.df_form.specs.Truth.{Assignment, has_sort, value_at}
use Rattle.df_form.proofs.Same.{same_sort_equal}
use Rattle.df_axiom.specs.Template.{Template}
use Rattle.df_axiom.specs.Types.{interval_template, natural_template, always_template, type_template, types_template}
use Rattle.df_axiom.proofs.Facts.{AreOf, IsSound}
use Rattle.df_axiom.proofs.Numbers.{yes_one, no_yes, yes_no, yes_no_no, at_most_truth, sorted_number}

-- the value of one number
pub record IsOne (vs : List Value) : Type 0 where
  pub n : ℤ
  pub is : vs ≡ Number n ∷ []

pub one_number : (ss : List Sort) (vs : List Value) → is_one sorts.Number ss ≡ true → AreOf ss vs → IsOne vs
one_number (s ∷ []) (v ∷ []) taken zip = let found = sorted_number s v taken zip.0 in record { n = found.0; is = λ i. found.1 i ∷ [] }
one_number (s ∷ []) [] taken zip = absurd zip
one_number (s ∷ []) (v ∷ u ∷ others) taken zip = absurd zip.1
one_number [] vs taken zip = absurd cc
one_number (s ∷ t ∷ others) vs taken zip = absurd cc

-- the value of one character
pub record IsLetter (vs : List Value) : Type 0 where
  pub c : ℕ
  pub is : vs ≡ Character c ∷ []
  pub small : nat_lt c 128 ≡ true

a_character : (v : Value) → has_sort sorts.Character v ≡ true → IsLetter (v ∷ [])
a_character (Character c) e = record { c = c; is = refl; small = e }
a_character (Number k) e = absurd cc
a_character (Truth b) e = absurd cc
a_character (Text t) e = absurd cc

pub one_character : (ss : List Sort) (vs : List Value) → is_one sorts.Character ss ≡ true → AreOf ss vs → IsLetter vs
one_character (s ∷ []) (v ∷ []) taken zip = a_character v (subst (λ (z : Sort). has_sort z v ≡ true) (same_sort_equal s sorts.Character taken) zip.0)
one_character (s ∷ []) [] taken zip = absurd zip
one_character (s ∷ []) (v ∷ u ∷ others) taken zip = absurd zip.1
one_character [] vs taken zip = absurd cc
one_character (s ∷ t ∷ others) vs taken zip = absurd cc

module _ (depth : ℕ) (world : World) (assignment : Assignment) where
  -- "x is of the newtype" is place 0, and x is 1
  module _ (t : ℕ) (newtype : Ends) (named : ends_at world t ≡ Some newtype) where
    abbrev op : Op
    op = test_of (types.Newtype t)

    type_truth : (v : Value) (vs : List Value) (n : ℤ) → v ≡ Truth (has_type world (types.Newtype t) (value_at vs 0)) → vs ≡ Number n ∷ [] → truth_of v ≡ (int_le newtype.low n && int_le n newtype.high)
    type_truth v vs n e is = ap truth_of e ∙ ap (λ (us : List Value). has_type world (types.Newtype t) (value_at us 0)) is ∙ ap (λ (found : Option Ends). option_map_or (λ (one : Ends). is_within one n) found false) named

    low_side : (v a b : Bool) → v ≡ (a && b) → v ≡ true → a ≡ true
    low_side v a b e is = (and_parts a b (sym e ∙ is)).0

    high_side : (v a b : Bool) → v ≡ (a && b) → v ≡ true → b ≡ true
    high_side v a b e is = (and_parts a b (sym e ∙ is)).1

    pub interval_sound : (k : ℕ) (template : Template) → interval_template op newtype.low newtype.high k ≡ Some template → IsSound depth world assignment template
    interval_sound zero template e = subst (IsSound depth world assignment) (same_Some _ template e) (λ w ps ss pieces same needed.
        let x = one_number (ss 0) (ps 0) (of_test (types.Newtype t) (ss 0) pieces.1.1).1 pieces.1.2 in
        let here = type_truth (w 0) (ps 0) x.n pieces.1.0 x.is in
        let part = pieces.2.0 ∙ ap (λ (us : List Value). value_at us 0) x.is in
        let w3 = at_most_truth (w 3) (w 2) (w 1) newtype.low x.n needed.1.0 needed.0 part in
        no_yes (truth_of (w 0)) (truth_of (w 3)) (λ is. w3 ∙ low_side (truth_of (w 0)) (int_le newtype.low x.n) (int_le x.n newtype.high) here is))
    interval_sound (suc zero) template e = subst (IsSound depth world assignment) (same_Some _ template e) (λ w ps ss pieces same needed.
        let x = one_number (ss 0) (ps 0) (of_test (types.Newtype t) (ss 0) pieces.1.1).1 pieces.1.2 in
        let here = type_truth (w 0) (ps 0) x.n pieces.1.0 x.is in
        let part = pieces.2.0 ∙ ap (λ (us : List Value). value_at us 0) x.is in
        let w3 = at_most_truth (w 3) (w 1) (w 2) x.n newtype.high needed.1.0 part needed.0 in
        no_yes (truth_of (w 0)) (truth_of (w 3)) (λ is. w3 ∙ high_side (truth_of (w 0)) (int_le newtype.low x.n) (int_le x.n newtype.high) here is))
    interval_sound (suc (suc zero)) template e = subst (IsSound depth world assignment) (same_Some _ template e) (λ w ps ss pieces same needed.
        let x = one_number (ss 0) (ps 0) (of_test (types.Newtype t) (ss 0) pieces.1.1).1 pieces.1.2 in
        let here = type_truth (w 0) (ps 0) x.n pieces.1.0 x.is in
        let part = pieces.2.0 ∙ ap (λ (us : List Value). value_at us 0) x.is in
        let w3 = at_most_truth (w 3) (w 2) (w 1) newtype.low x.n needed.1.0 needed.0 part in
        let w5 = at_most_truth (w 5) (w 1) (w 4) x.n newtype.high needed.1.1.1.0 part needed.1.1.0 in
        yes_no_no (truth_of (w 0)) (truth_of (w 3)) (truth_of (w 5)) (λ low high. here ∙ and_from (int_le newtype.low x.n) (int_le x.n newtype.high) (sym w3 ∙ low) (sym w5 ∙ high)))
    interval_sound (suc (suc (suc k))) template e = absurd cc

  -- "x is a `nat`" is place 0, and x is 1
  natural_truth : (v : Value) (vs : List Value) (n : ℤ) → v ≡ Truth (has_type world types.Nat (value_at vs 0)) → vs ≡ Number n ∷ [] → truth_of v ≡ int_le (pos 0) n
  natural_truth v vs n e is = ap truth_of e ∙ ap (λ (us : List Value). has_type world types.Nat (value_at us 0)) is

  natural_sound : (k : ℕ) (template : Template) → natural_template (test_of types.Nat) k ≡ Some template → IsSound depth world assignment template
  natural_sound zero template e = subst (IsSound depth world assignment) (same_Some _ template e) (λ w ps ss pieces same needed.
      let x = one_number (ss 0) (ps 0) (of_test types.Nat (ss 0) pieces.1.1).1 pieces.1.2 in
      let here = natural_truth (w 0) (ps 0) x.n pieces.1.0 x.is in
      let part = pieces.2.0 ∙ ap (λ (us : List Value). value_at us 0) x.is in
      let w3 = at_most_truth (w 3) (w 2) (w 1) (pos 0) x.n needed.1.0 needed.0 part in
      no_yes (truth_of (w 0)) (truth_of (w 3)) (λ is. w3 ∙ sym here ∙ is))
  natural_sound (suc zero) template e = subst (IsSound depth world assignment) (same_Some _ template e) (λ w ps ss pieces same needed.
      let x = one_number (ss 0) (ps 0) (of_test types.Nat (ss 0) pieces.1.1).1 pieces.1.2 in
      let here = natural_truth (w 0) (ps 0) x.n pieces.1.0 x.is in
      let part = pieces.2.0 ∙ ap (λ (us : List Value). value_at us 0) x.is in
      let w3 = at_most_truth (w 3) (w 2) (w 1) (pos 0) x.n needed.1.0 needed.0 part in
      yes_no (truth_of (w 0)) (truth_of (w 3)) (λ least. here ∙ sym w3 ∙ least))
  natural_sound (suc (suc k)) template e = absurd cc

  -- all values of the sort of a type are of it
  abbrev HasAll : Ty → Type 0
  HasAll ty = (ss : List Sort) (vs : List Value) → (is_testable ty ≡ true) × (is_one (sort_of_type ty) ss ≡ true) → AreOf ss vs → has_type world ty (value_at vs 0) ≡ true

  int_holds : HasAll types.Int
  int_holds ss vs taken zip = ap (λ (us : List Value). has_type world types.Int (value_at us 0)) (one_number ss vs taken.1 zip).is

  bool_holds : HasAll types.Bool
  bool_holds ss vs taken zip = absurd (true≢false (sym taken.0))

  char_holds : HasAll types.Char
  char_holds ss vs taken zip = let x = one_character ss vs taken.1 zip in ap (λ (us : List Value). has_type world types.Char (value_at us 0)) x.is ∙ x.small

  always_sound : (ty : Ty) → HasAll ty → (k : ℕ) (template : Template) → always_template (test_of ty) k ≡ Some template → IsSound depth world assignment template
  always_sound ty all zero template e = subst (IsSound depth world assignment) (same_Some _ template e) (λ w ps ss pieces same needed. yes_one (truth_of (w 0)) (ap truth_of pieces.1.0 ∙ all (ss 0) (ps 0) (of_test ty (ss 0) pieces.1.1) pieces.1.2))
  always_sound ty all (suc k) template e = absurd cc

  type_sound : (ty : Ty) (k : ℕ) (template : Template) → type_template world ty k ≡ Some template → IsSound depth world assignment template
  type_sound (types.Newtype t) k template e =
      let found = then_some (λ (newtype : Ends). interval_template (test_of (types.Newtype t)) newtype.low newtype.high k) (ends_at world t) template e in
      interval_sound t found.0 found.1 k template found.2
  type_sound types.Int k template e = always_sound types.Int int_holds k template e
  type_sound types.Nat k template e = natural_sound k template e
  type_sound types.Bool k template e = always_sound types.Bool bool_holds k template e
  type_sound types.Char k template e = always_sound types.Char char_holds k template e

  pub types_sound : (op : Op) (k : ℕ) (template : Template) → types_template world op k ≡ Some template → IsSound depth world assignment template
  types_sound (ops.Of symbols.Is (payloads.Type ty)) k template e = type_sound ty k template e
  types_sound op k template e = absurd cc
