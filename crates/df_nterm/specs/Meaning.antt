-- What terms mean.
use Rattle.std.specs.Prelude.{◌≡◌, ℕ, ℤ, pos, ◌+ℤ◌, ◌*ℤ◌, int_le, nat_lt, Bool, true, false, ◌&&◌, ◌||◌, not, if◌then◌else◌, List, [], ◌∷◌, slice_index_or}
use Rattle.std.specs.Ordering.{int_eq}
use Rattle.std.specs.Int.{int_div_euclid, int_rem_euclid}
use Rattle.std.specs.List.{list_all, list_any}
use Rattle.df_lang.specs.Program.{Program}
use Rattle.df_meaning.specs.Value.{Value, Truth, Character, Number, number_of, truth_of, same_truth, same_value}
use Rattle.df_meaning.specs.Types.{has_type}
use Rattle.df_nterm.specs.Term.{Sort, Numbers, Truths, Characters, Free, Op, Term, node, Terms, no_term, term}
use Rattle.df_nterm.specs.Term as ops

-- the value is of the sort
abbrev pub has_sort : Sort → Value → Bool
has_sort Numbers (Number n) = true
has_sort Truths (Truth b) = true
has_sort Characters (Character c) = nat_lt c 128
has_sort sort value = false

-- the program that terms speak of, and a value of its sort for each free term
pub record Interpretation : Type 0 where
  pub program : Program
  pub value : Free → Value
  pub sorted : (free : Free) → has_sort free.sort (value free) ≡ true

-- a reading beside the list is the number 0
abbrev pub number_at : List Value → ℕ → ℤ
number_at parts n = number_of (slice_index_or parts n (Number (pos 0)))

abbrev pub truth_at : List Value → ℕ → Bool
truth_at parts n = truth_of (slice_index_or parts n (Number (pos 0)))

-- division by 0 gives 0
abbrev pub quotient : ℤ → ℤ → ℤ
quotient a b = if int_eq b (pos 0) then pos 0 else int_div_euclid a b

abbrev pub remainder : ℤ → ℤ → ℤ
remainder a b = if int_eq b (pos 0) then pos 0 else int_rem_euclid a b

abbrev pub is_code : ℤ → Bool
is_code n = int_le (pos 0) n && int_le n (pos 127)

-- the character of a code; of another number it is `D`, the default of characters
abbrev pub character_of : ℤ → Value
character_of (pos c) = if is_code (pos c) then Character c else Character 68
character_of n = Character 68

-- the value of an operation at the values of its parts
abbrev pub apply : Interpretation → Op → List Value → Value
apply i (ops.Number n) parts = Number n
apply i (ops.FreeTerm free) parts = i.value free
apply i ops.Plus parts = Number (number_at parts 0 +ℤ number_at parts 1)
apply i ops.Times parts = Number (number_at parts 0 *ℤ number_at parts 1)
apply i ops.Div parts = Number (quotient (number_at parts 0) (number_at parts 1))
apply i ops.Mod parts = Number (remainder (number_at parts 0) (number_at parts 1))
apply i ops.Code parts = Number (number_at parts 0)
apply i ops.Chr parts = character_of (number_at parts 0)
apply i (ops.Is ty) parts = Truth (has_type i.program ty (slice_index_or parts 0 (Number (pos 0))))
apply i ops.Equal parts = Truth (same_value (slice_index_or parts 0 (Number (pos 0))) (slice_index_or parts 1 (Number (pos 0))))
apply i ops.AtMost parts = Truth (int_le (number_at parts 0) (number_at parts 1))
apply i ops.Not parts = Truth (not (truth_at parts 0))
apply i ops.And parts = Truth (list_all truth_of parts)
apply i ops.Or parts = Truth (list_any truth_of parts)
apply i ops.Implies parts = Truth (not (truth_at parts 0) || truth_at parts 1)
apply i ops.Iff parts = Truth (same_truth (truth_at parts 0) (truth_at parts 1))

abbrev mutual
  -- the value of a term, from those of its parts
  pub value : Interpretation → Term → Value
  value i (node op parts) = apply i op (values i parts)

  pub values : Interpretation → Terms → List Value
  values i no_term = []
  values i (term a others) = value i a ∷ values i others

-- the formula is true
abbrev pub truth : Interpretation → Term → Bool
truth i formula = truth_of (value i formula)

abbrev pub number : Interpretation → Term → ℤ
number i a = number_of (value i a)
