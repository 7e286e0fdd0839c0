-- What the functions on lines of linear arithmetic answer.
use Rattle.std.specs.Prelude.{◌≡◌, ◌<◌, ℕ, pos, negsuc, Bool, true, false, List, [], ◌∷◌, map, length, slice_get, Option, None, Some, Result, Ok, Err}
use Rattle.df_form.specs.declared.node.Sort.{Sort}
use Rattle.df_form.specs.declared.node.Sort.TheVariants as sorts
use Rattle.df_form.specs.declared.node.Op.{Op}
use Rattle.df_form.specs.declared.node.Op.TheVariants as ops
use Rattle.df_form.specs.Node.{Node}
use Rattle.df_form.specs.Sorting.{sort_at}
use Rattle.df_row.specs.declared.linear.Comparison.{Comparison}
use Rattle.df_row.specs.declared.linear.Comparison.TheVariants as comparisons
use Rattle.df_row.specs.declared.row.RowFault.{RowFault}
use Rattle.df_row.specs.declared.row.RowFault.TheVariants as faults
use Rattle.df_row.specs.Row.{Row, difference}
use Rattle.df_row.specs.RowView.{IsWithin}
use Rattle.df_row.specs.Linear.{one_row, two_rows, rows_of, refutes}
use Rattle.df_form.specs.Clause.{Clause, negation}
use Rattle.df_form.specs.Log.{Combination}

-- what a literal says of two nodes
abbrev pub compared : Bool → Op → ℕ → ℕ → Comparison
compared true ops.AtMost a b = comparisons.AtMost a b
compared false ops.AtMost a b = comparisons.Above a b
compared true ops.Equal a b = comparisons.Equal a b
compared positive op a b = comparisons.Other

abbrev pub compared_by_sort : Sort → Bool → Op → ℕ → ℕ → Comparison
compared_by_sort sorts.Number positive op a b = compared positive op a b
compared_by_sort sorts.Truth positive op a b = comparisons.Other
compared_by_sort sorts.Character positive op a b = comparisons.Other

abbrev pub compared_parts : List Node → Bool → Op → List ℕ → Comparison
compared_parts nodes positive op (a ∷ b ∷ []) = compared_by_sort (sort_at nodes a) positive op a b
compared_parts nodes positive op parts = comparisons.Other

abbrev pub comparison_of : List Node → Bool → Option Node → Comparison
comparison_of nodes positive None = comparisons.Other
comparison_of nodes positive (Some node) = compared_parts nodes positive node.op node.parts

-- the rows that it gives
abbrev pub rows_of_comparison : List Node → ℕ → Comparison → Option (List Row)
rows_of_comparison nodes count (comparisons.AtMost a b) = one_row (difference nodes count a b (pos 0))
rows_of_comparison nodes count (comparisons.Above a b) = one_row (difference nodes count b a (negsuc 0))
rows_of_comparison nodes count (comparisons.Equal a b) = two_rows (difference nodes count a b (pos 0)) (difference nodes count b a (pos 0))
rows_of_comparison nodes count comparisons.Other = Some []

-- the nodes that are compared stand below the count
abbrev pub IsComparisonBelow : ℕ → Comparison → Type 0
IsComparisonBelow count (comparisons.AtMost a b) = (a < count) × (b < count)
IsComparisonBelow count (comparisons.Above a b) = (a < count) × (b < count)
IsComparisonBelow count (comparisons.Equal a b) = (a < count) × (b < count)
IsComparisonBelow count comparisons.Other = Unit {0}

-- only nodes below the count have a coefficient in the rows
pub record AreWithin (count : ℕ) (rows : List Row) : Type 0 where
  pub each : (n : ℕ) (row : Row) → slice_get rows n ≡ Some row → IsWithin count row

-- an answer is the test's; a refusal says that it fails, and want of memory says nothing
abbrev pub Tells : Result Bool RowFault → Bool → Type 0
Tells (Ok answer) test = test ≡ answer
Tells (Err faults.Refused) test = test ≡ false
Tells (Err faults.Memory) test = Unit {0}

-- combinations refute the rows of the negated literals
abbrev pub if_rows : Option (List Row) → (List Row → Bool) → Bool
if_rows None test = false
if_rows (Some rows) test = test rows

abbrev pub are_refuted : List Node → Clause → List Combination → Bool
are_refuted nodes conclusion combinations = if_rows (rows_of nodes (map negation conclusion)) (λ rows. refutes (length nodes) rows combinations)
