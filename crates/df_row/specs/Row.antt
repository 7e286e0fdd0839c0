-- Rows: 0 is at most a sum of coefficients times nodes, and a constant.
use Rattle.std.specs.Prelude.{ℕ, zero, suc, ℤ, pos, negsuc, ◌+ℤ◌, ◌*ℤ◌, ◌==◌, Bool, true, ◌&&◌, List, [], ◌∷◌, slice_get, Option, None, Some, if◌then◌else◌}
use Rattle.std.specs.Option.{option_and_then}
use Rattle.df_form.specs.declared.node.Op.{Op}
use Rattle.df_form.specs.declared.node.Op.TheVariants as ops
use Rattle.df_form.specs.Node.{Node}
pub use Rattle.df_integer.specs.Integer.{fits}

-- the coefficient of each node, and the constant
pub record Row : Type 0 where
  pub coefficient : ℕ → ℤ
  pub constant : ℤ

-- another coefficient for one node
abbrev pub with_coefficient : (ℕ → ℤ) → ℕ → ℤ → ℕ → ℤ
with_coefficient coefficient n c m = if m == n then c else coefficient m

-- 0 <= 0, with another constant
abbrev pub constant_row : ℤ → Row
constant_row k = record { coefficient = λ n. pos 0; constant = k }

-- so many times the node more
abbrev pub with_more : ℕ → ℤ → Row → Row
with_more n c row = record { coefficient = with_coefficient row.coefficient n (row.coefficient n +ℤ c); constant = row.constant }

-- and so many more
abbrev pub with_constant : ℤ → Row → Row
with_constant c row = record { coefficient = row.coefficient; constant = row.constant +ℤ c }

abbrev pub without : ℕ → Row → Row
without n row = record { coefficient = with_coefficient row.coefficient n (pos 0); constant = row.constant }

-- the number of a literal
abbrev pub number_of_op : Op → Option ℤ
number_of_op (ops.Number k) = Some k
number_of_op op = None

abbrev pub literal_number : Option Node → Option ℤ
literal_number node = option_and_then (λ (n : Node). number_of_op n.op) node

-- c times a product: where its first factor is a literal k, this is c times k times the other factor
abbrev pub with_product : ℤ → ℕ → Option ℤ → Row → Row → Row
with_product c b None unchanged row = unchanged
with_product c b (Some k) unchanged row = with_more b (c *ℤ k) row

abbrev pub expanded_parts : List Node → ℤ → Op → List ℕ → Row → Row → Row
expanded_parts nodes c (ops.Number k) parts unchanged row = with_constant (c *ℤ k) row
expanded_parts nodes c ops.Plus (a ∷ b ∷ []) unchanged row = with_more b c (with_more a c row)
expanded_parts nodes c ops.Times (a ∷ b ∷ []) unchanged row = with_product c b (literal_number (slice_get nodes a)) unchanged row
expanded_parts nodes c op parts unchanged row = unchanged

-- In a row a literal is part of the constant, and a sum and a literal times a node stand for their parts.
abbrev pub expanded_at : List Node → ℕ → Option Node → Row → Row
expanded_at nodes n None row = row
expanded_at nodes n (Some node) row = expanded_parts nodes (row.coefficient n) node.op node.parts row (without n row)

-- so for the nodes below a number, from the highest down
abbrev pub expanded_below : List Node → ℕ → Row → Row
expanded_below nodes zero row = row
expanded_below nodes (suc n) row = expanded_below nodes n (expanded_at nodes n (slice_get nodes n) row)

-- the test passes for each node below the number
abbrev pub all_below : ℕ → (ℕ → Bool) → Bool
all_below zero test = true
all_below (suc n) test = test n && all_below n test

-- the constant and the coefficients of the nodes below the count have 128 bits
abbrev pub row_fits : ℕ → Row → Bool
row_fits count row = all_below count (λ n. fits (row.coefficient n)) && fits row.constant

-- the row, where its numbers have 128 bits
abbrev pub narrow_row : ℕ → Row → Option Row
narrow_row count row = if row_fits count row then Some row else None

-- b - a + k, where the nodes below the count are expanded
abbrev pub expanded_difference : List Node → ℕ → ℕ → ℕ → ℤ → Row
expanded_difference nodes count a b k = expanded_below nodes count (with_more a (negsuc 0) (with_more b (pos 1) (constant_row k)))

-- 0 <= b - a + k; the sum is exact, and its numbers are to have 128 bits
abbrev pub difference : List Node → ℕ → ℕ → ℕ → ℤ → Option Row
difference nodes count a b k = narrow_row count (expanded_difference nodes count a b k)
