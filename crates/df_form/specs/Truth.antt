-- What nodes mean.
use Rattle.std.specs.Prelude.{◌≡◌, ℕ, ℤ, pos, negsuc, ◌+ℤ◌, ◌*ℤ◌, int_le, nat_lt, Bool, true, false, ◌||◌, not, if◌then◌else◌, List, [], ◌∷◌, ◌++◌, map, slice_index_or, Option, Some, refl}
use Rattle.std.specs.Ordering.{int_eq}
use Rattle.std.specs.Option.{unwrap_or}
use Rattle.std.specs.Int.{int_div_euclid, int_rem_euclid}
use Rattle.std.specs.List.{list_all, list_any}
use Rattle.df_form.specs.World.{World}
use Rattle.df_meaning.specs.Value.{Value, Truth, Character, Number, number_of, truth_of, same_truth, same_value}
use Rattle.df_form.specs.Types.{has_type}
use Rattle.df_form.specs.declared.node.Sort.{Sort}
use Rattle.df_form.specs.declared.node.Sort.TheVariants as sorts
use Rattle.df_form.specs.declared.node.Free.{Free}
use Rattle.df_form.specs.declared.node.Op.{Op}
use Rattle.df_form.specs.declared.node.Op.TheVariants as ops
use Rattle.df_form.specs.declared.symbol.Symbol.{Symbol}
use Rattle.df_form.specs.declared.symbol.Symbol.TheVariants as symbols
use Rattle.df_form.specs.declared.symbol.Payload.{Payload}
use Rattle.df_form.specs.Symbol.{type_in, filled, given_by}
use Rattle.df_form.specs.Node.{Node}

-- the value is of the sort
abbrev pub has_sort : Sort → Value → Bool
has_sort sorts.Number (Number n) = true
has_sort sorts.Truth (Truth b) = true
has_sort sorts.Character (Character c) = nat_lt c 128
has_sort sort value = false

-- a value of its sort for each free term
pub record Assignment : Type 0 where
  pub value : Free → Value
  pub sorted : (free : Free) → has_sort free.sort (value free) ≡ true

-- a reading beside the list is the number 0
abbrev pub value_at : List Value → ℕ → Value
value_at known n = slice_index_or known n (Number (pos 0))

abbrev pub number_at : List Value → ℕ → ℤ
number_at known n = number_of (value_at known n)

abbrev pub truth_at : List Value → ℕ → Bool
truth_at known n = truth_of (value_at known n)

-- the quotient that leaves a remainder of at least 0; by 0 it is 0
abbrev pub quotient : ℤ → ℤ → ℤ
quotient a b = if int_eq b (pos 0) then pos 0 else int_div_euclid a b

-- that remainder; by 0 it is 0
abbrev pub remainder : ℤ → ℤ → ℤ
remainder a b = if int_eq b (pos 0) then pos 0 else int_rem_euclid a b

-- the number where it is the code of a character, else that of `D`, the sort's default
abbrev pub code_in : ℤ → ℕ
code_in (pos c) = if nat_lt c 128 then c else 68
code_in (negsuc n) = 68

below_if : (c : ℕ) (small : Bool) → nat_lt c 128 ≡ small → nat_lt (if small then c else 68) 128 ≡ true
below_if c true e = e
below_if c false e = refl

pub code_below : (z : ℤ) → nat_lt (code_in z) 128 ≡ true
code_below (pos c) = below_if c (nat_lt c 128) refl
code_below (negsuc n) = refl

-- the default of a sort
abbrev pub default : Sort → Value
default sorts.Number = Number (pos 0)
default sorts.Truth = Truth false
default sorts.Character = Character 68

-- the value of a symbol at the values of its parts, where it has one
abbrev pub meaning : World → Symbol → Payload → List Value → Option Value
meaning world symbols.Div payload parts = Some (Number (quotient (number_at parts 0) (number_at parts 1)))
meaning world symbols.Mod payload parts = Some (Number (remainder (number_at parts 0) (number_at parts 1)))
meaning world symbols.Code payload parts = Some (Number (number_at parts 0))
meaning world symbols.Chr payload parts = Some (Character (code_in (number_at parts 0)))
meaning world symbols.Is payload parts = Some (Truth (has_type world (type_in payload) (value_at parts 0)))

-- where it has none, the default of its sort
abbrev pub applied : World → Symbol → Payload → List Value → Value
applied world symbol payload parts = unwrap_or (meaning world symbol payload parts) (default (filled payload (given_by symbol)))

-- the value of an operation at the values of its parts
abbrev pub apply : ℕ → World → Assignment → Op → List Value → Value
apply depth world assignment (ops.Number n) parts = Number n
apply depth world assignment (ops.Free free) parts = assignment.value free
apply depth world assignment ops.Plus parts = Number (number_at parts 0 +ℤ number_at parts 1)
apply depth world assignment ops.Times parts = Number (number_at parts 0 *ℤ number_at parts 1)
apply depth world assignment ops.Equal parts = Truth (same_value (value_at parts 0) (value_at parts 1))
apply depth world assignment ops.AtMost parts = Truth (int_le (number_at parts 0) (number_at parts 1))
apply depth world assignment ops.Not parts = Truth (not (truth_at parts 0))
apply depth world assignment ops.And parts = Truth (list_all truth_of parts)
apply depth world assignment ops.Or parts = Truth (list_any truth_of parts)
apply depth world assignment ops.Implies parts = Truth (not (truth_at parts 0) || truth_at parts 1)
apply depth world assignment ops.Iff parts = Truth (same_truth (truth_at parts 0) (truth_at parts 1))
apply depth world assignment (ops.Of symbol payload) parts = applied world symbol payload parts

-- the values of nodes, each from those of its parts, after the values of the nodes before them
abbrev pub values_after : ℕ → World → Assignment → List Value → List Node → List Value
values_after depth world assignment known [] = known
values_after depth world assignment known (node ∷ nodes) = values_after depth world assignment (known ++ apply depth world assignment node.op (map (value_at known) node.parts) ∷ []) nodes

-- the values of nodes in the order of their numbers
abbrev pub values : ℕ → World → Assignment → List Node → List Value
values depth world assignment nodes = values_after depth world assignment [] nodes

-- the formula of a number is true at a depth under an assignment
abbrev pub truth : ℕ → World → Assignment → List Node → ℕ → Bool
truth depth world assignment nodes n = truth_at (values depth world assignment nodes) n
