-- Sorts: what an operation takes, and what it gives.
use Rattle.std.specs.Prelude.{◌≡◌, ℕ, Bool, true, false, ◌&&◌, ◌||◌, nat_lt, List, [], ◌∷◌, map, take, length, slice_get, Option, None, Some}
use Rattle.std.specs.Option.{option_map_or}
use Rattle.std.specs.List.{list_all}
use Rattle.df_form.specs.declared.node.Sort.{Sort}
use Rattle.df_form.specs.declared.node.Sort.TheVariants as sorts
use Rattle.df_form.specs.declared.node.Op.{Op}
use Rattle.df_form.specs.declared.node.Op.TheVariants as ops
use Rattle.df_form.specs.Node.{Node, same_sort}
use Rattle.df_form.specs.declared.symbol.Payload.{Payload}
use Rattle.df_form.specs.Symbol.{Entry, row_of, accepts, filled, given_by}

-- the sort of the value that an operation gives
abbrev pub sort_of : Op → Sort
sort_of (ops.Number n) = sorts.Number
sort_of (ops.Free free) = free.sort
sort_of ops.Plus = sorts.Number
sort_of ops.Times = sorts.Number
sort_of (ops.Of symbol payload) = filled payload (given_by symbol)
sort_of op = sorts.Truth

abbrev pub are_none : List Sort → Bool
are_none [] = true
are_none parts = false

abbrev pub is_one : Sort → List Sort → Bool
is_one sort (part ∷ []) = same_sort part sort
is_one sort parts = false

abbrev pub are_two : Sort → List Sort → Bool
are_two sort (left ∷ right ∷ []) = same_sort left sort && same_sort right sort
are_two sort parts = false

-- two numbers, or two characters
abbrev pub are_two_values : List Sort → Bool
are_two_values parts = are_two sorts.Number parts || are_two sorts.Character parts

-- these sorts, one by one
abbrev pub are_each : List Sort → List Sort → Bool
are_each [] [] = true
are_each (sort ∷ others) (part ∷ parts) = same_sort part sort && are_each others parts
are_each sorts parts = false

-- the symbol of the row takes parts of these sorts, where this stands with it
abbrev pub takes_by : Option Entry → Payload → List Sort → Bool
takes_by (Some row) payload parts = accepts row.payload payload && are_each (map (filled payload) row.taken) parts
takes_by None payload parts = false

-- the operation takes parts of these sorts
abbrev pub takes : Op → List Sort → Bool
takes (ops.Number n) parts = are_none parts
takes (ops.Free free) parts = are_none parts
takes ops.Plus parts = are_two sorts.Number parts
takes ops.Times parts = are_two sorts.Number parts
takes ops.Equal parts = are_two_values parts
takes ops.AtMost parts = are_two sorts.Number parts
takes ops.Not parts = is_one sorts.Truth parts
takes ops.And parts = list_all (same_sort sorts.Truth) parts
takes ops.Or parts = list_all (same_sort sorts.Truth) parts
takes ops.Implies parts = are_two sorts.Truth parts
takes ops.Iff parts = are_two sorts.Truth parts
takes (ops.Of symbol payload) parts = takes_by (row_of symbol) payload parts

-- the sort of the node of a number
abbrev pub sort_at : List Node → ℕ → Sort
sort_at nodes n = option_map_or (λ node. sort_of node.op) (slice_get nodes n) sorts.Number

-- the number names a formula
abbrev pub is_formula : List Node → ℕ → Bool
is_formula nodes n = nat_lt n (length nodes) && same_sort (sort_at nodes n) sorts.Truth

-- the node may stand after these: its parts are among them, of the sorts that its operation takes
abbrev pub is_well_sorted : List Node → Node → Bool
is_well_sorted nodes node = list_all (λ part. nat_lt part (length nodes)) node.parts && takes node.op (map (sort_at nodes) node.parts)

-- nodes by their numbers: each is well sorted after those before it, and no two are the same
pub record IsTable (nodes : List Node) : Type 0 where
  pub sorted : (n : ℕ) (node : Node) → slice_get nodes n ≡ Some node → is_well_sorted (take n nodes) node ≡ true
  pub distinct : (m n : ℕ) (node : Node) → slice_get nodes m ≡ Some node → slice_get nodes n ≡ Some node → m ≡ n
