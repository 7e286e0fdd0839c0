-- Linear arithmetic: rows of literals, and their combinations.
use Rattle.std.specs.Prelude.{ℕ, ℤ, pos, negsuc, ◌+ℤ◌, ◌*ℤ◌, ◌/◌, int_le, Bool, true, false, ◌&&◌, List, [], ◌∷◌, ◌++◌, map, length, slice_get, Option, None, Some, if◌then◌else◌}
use Rattle.std.specs.Option.{option_and_then, option_map}
use Rattle.std.specs.Ordering.{int_eq}
use Rattle.df_form.specs.declared.node.Sort.{Sort}
use Rattle.df_form.specs.declared.node.Sort.TheVariants as sorts
use Rattle.df_form.specs.declared.node.Op.{Op}
use Rattle.df_form.specs.declared.node.Op.TheVariants as ops
use Rattle.df_form.specs.declared.log.Lit.{Lit}
use Rattle.df_form.specs.declared.log.Multiple.{Multiple}
use Rattle.df_form.specs.Log.{Combination}
use Rattle.df_form.specs.Node.{Node}
use Rattle.df_form.specs.Sorting.{sort_at}
use Rattle.df_form.specs.Clause.{Clause, negation, are_literals}
pub use Rattle.df_row.specs.Row.{all_below}
use Rattle.df_row.specs.Row.{Row, fits, constant_row, difference}

abbrev pub one_row : Option Row → Option (List Row)
one_row row = option_map (λ r. r ∷ []) row

abbrev pub two_rows : Option Row → Option Row → Option (List Row)
two_rows first second = option_and_then (λ r. option_map (λ s. r ∷ s ∷ []) second) first

-- The rows of a literal: a <= b is 0 <= b - a, its negation is 0 <= a - b - 1, a = b is both ways of <=.
-- Other literals have none.
abbrev pub comparison_rows : List Node → Bool → Op → ℕ → ℕ → Option (List Row)
comparison_rows nodes true ops.AtMost a b = one_row (difference nodes (length nodes) a b (pos 0))
comparison_rows nodes false ops.AtMost a b = one_row (difference nodes (length nodes) b a (negsuc 0))
comparison_rows nodes true ops.Equal a b = two_rows (difference nodes (length nodes) a b (pos 0)) (difference nodes (length nodes) b a (pos 0))
comparison_rows nodes positive op a b = Some []

abbrev pub rows_by_sort : Sort → List Node → Bool → Op → ℕ → ℕ → Option (List Row)
rows_by_sort sorts.Number nodes positive op a b = comparison_rows nodes positive op a b
rows_by_sort sorts.Truth nodes positive op a b = Some []
rows_by_sort sorts.Character nodes positive op a b = Some []

abbrev pub rows_of_parts : List Node → Bool → Op → List ℕ → Option (List Row)
rows_of_parts nodes positive op (a ∷ b ∷ []) = rows_by_sort (sort_at nodes a) nodes positive op a b
rows_of_parts nodes positive op parts = Some []

abbrev pub rows_of_node : List Node → Bool → Option Node → Option (List Row)
rows_of_node nodes positive None = Some []
rows_of_node nodes positive (Some node) = rows_of_parts nodes positive node.op node.parts

-- the rows of literals, in order
abbrev pub rows_of : List Node → List Lit → Option (List Row)
rows_of nodes [] = Some []
rows_of nodes (l ∷ others) = option_and_then (λ rows. option_map (λ more. rows ++ more) (rows_of nodes others)) (rows_of_node nodes l.positive (slice_get nodes l.node))

-- a row, and another one so many times; each number on the way fits
abbrev pub sum_fits : ℕ → Row → ℤ → Row → Bool
sum_fits count row factor other =
    all_below count (λ n. fits (factor *ℤ other.coefficient n) && fits (row.coefficient n +ℤ (factor *ℤ other.coefficient n)))
    && fits (factor *ℤ other.constant) && fits (row.constant +ℤ (factor *ℤ other.constant))

abbrev pub sum_of : Row → ℤ → Row → Row
sum_of row factor other = record { coefficient = λ n. row.coefficient n +ℤ (factor *ℤ other.coefficient n); constant = row.constant +ℤ (factor *ℤ other.constant) }

abbrev pub with_multiple : ℕ → Row → ℤ → Option Row → Option Row
with_multiple count row factor None = None
with_multiple count row factor (Some other) = if int_le (pos 0) factor && sum_fits count row factor other then Some (sum_of row factor other) else None

-- the sum of these multiples of rows
abbrev pub sum_from : ℕ → List Row → Row → List Multiple → Option Row
sum_from count rows row [] = Some row
sum_from count rows row (m ∷ others) = option_and_then (λ sum. sum_from count rows sum others) (with_multiple count row m.factor (slice_get rows m.row))

-- the quotient, rounded down, by a number of at least 1
abbrev pub quotient : ℤ → ℤ → ℤ
quotient (pos n) (pos d) = pos (n / d)
quotient (negsuc n) (pos d) = negsuc (n / d)
quotient z (negsuc d) = pos 0

-- the divisor divides each coefficient
abbrev pub divides : ℕ → ℤ → Row → Bool
divides count d row = int_le (pos 1) d && all_below count (λ n. int_eq (d *ℤ quotient (row.coefficient n) d) (row.coefficient n))

-- the row divided, its constant rounded down
abbrev pub divided : ℕ → ℤ → Row → Option Row
divided count d row = if divides count d row then Some (record { coefficient = λ n. quotient (row.coefficient n) d; constant = quotient row.constant d }) else None

abbrev pub combined : ℕ → List Row → Combination → Option Row
combined count rows c = option_and_then (divided count c.divisor) (sum_from count rows (constant_row (pos 0)) c.members)

-- 0 <= c for a c below 0
abbrev pub is_false : ℕ → Row → Bool
is_false count row = all_below count (λ n. int_eq (row.coefficient n) (pos 0)) && int_le row.constant (negsuc 0)

abbrev pub if_row : Option Row → (Row → Bool) → Bool
if_row None test = false
if_row (Some row) test = test row

-- Each combination gives one more row, and the last is false.
abbrev pub refutes : ℕ → List Row → List Combination → Bool
refutes count rows [] = false
refutes count rows (c ∷ []) = if_row (combined count rows c) (is_false count)
refutes count rows (c ∷ next ∷ others) = if_row (combined count rows c) (λ row. refutes count (rows ++ row ∷ []) (next ∷ others))

abbrev pub linear_of : List Node → Clause → List Combination → List Row → Option Clause
linear_of nodes conclusion combinations rows = if refutes (length nodes) rows combinations then Some conclusion else None

-- `l L.. : R..`
abbrev pub linear_line : List Node → Clause → List Combination → Option Clause
linear_line nodes conclusion combinations =
    if are_literals nodes conclusion then option_and_then (linear_of nodes conclusion combinations) (rows_of nodes (map negation conclusion)) else None
