-- The code's rows, and what the functions on them answer.
use Rattle.std.specs.Prelude.{◌≡◌, ℕ, ◌≤◌, ◌<◌, ℤ, pos, ◌+ℤ◌, ◌*ℤ◌, true, List, [], ◌∷◌, slice_get, Option, None, Some, Result, Ok, Err, if◌then◌else◌}
use Rattle.std.specs.Option.{unwrap_or}
use Rattle.std.specs.Ordering.{nat_cmp, int_eq}
use Rattle.std.specs.BTreeMap.{is_at}
use Rattle.std.specs.Map.{lookup}
use Rattle.df_form.specs.declared.node.Op.{Op}
use Rattle.df_form.specs.declared.node.Op.TheVariants as ops
use Rattle.df_form.specs.declared.offset.Offset.{Offset}
use Rattle.df_form.specs.Node.{Node}
use Rattle.df_row.specs.declared.row.Row as declared
use Rattle.df_row.specs.declared.expansion.Term.{Term}
use Rattle.df_row.specs.declared.expansion.Term.TheVariants as terms
use Rattle.df_row.specs.declared.row.RowFault.{RowFault}
use Rattle.df_row.specs.declared.row.RowFault.TheVariants as faults
use Rattle.df_row.specs.Linear.{quotient}
use Rattle.df_row.specs.Row.{Row, fits, literal_number, with_more, with_constant}
pub use Rattle.df_integer.specs.Integer.{narrow}

-- the coefficient of a node among entries, which is 0 where it has none
abbrev pub coefficient_at : List (ℕ × ℤ) → ℕ → ℤ
coefficient_at entries n = unwrap_or (lookup (is_at (nat_cmp n)) entries) (pos 0)

-- the code's row, without where it lies in memory
abbrev pub row_of : declared.Row → Row
row_of r = record { coefficient = coefficient_at r.coefficients.entries; constant = r.constant }

-- a refusal says that there is nothing; want of memory says nothing
abbrev pub Fails : {Y : Type 0} → RowFault → Option Y → Type 0
Fails faults.Refused found = found ≡ None
Fails faults.Memory found = Unit {0}

-- an answer, seen through a view, against what a definition gives
abbrev pub Finds : {X Y : Type 0} → (X → Y) → Result X RowFault → Option Y → Type 0
Finds view (Ok x) found = found ≡ Some (view x)
Finds view (Err fault) found = Fails fault found

-- what is found, where the number has 128 bits
abbrev pub if_fits : {A : Type 0} → ℤ → Option A → Option A
if_fits z found = if fits z then found else None

-- so many times the node more, and so many more, where the sum has 128 bits
abbrev pub fitting_more : ℕ → ℤ → Row → Option Row
fitting_more n c row = if_fits (row.coefficient n +ℤ c) (Some (with_more n c row))

abbrev pub fitting_constant : ℤ → Row → Option Row
fitting_constant c row = if_fits (row.constant +ℤ c) (Some (with_constant c row))

-- each number of the row has 128 bits
pub record IsNarrow (row : Row) : Type 0 where
  pub coefficients : (n : ℕ) → fits (row.coefficient n) ≡ true
  pub constant : fits row.constant ≡ true

-- only nodes below the count have a coefficient
pub record IsWithin (count : ℕ) (row : Row) : Type 0 where
  pub zero_from : (n : ℕ) → count ≤ n → row.coefficient n ≡ pos 0

-- the last node below the bound that may have a coefficient
abbrev pub IsLastBelow : ℕ → Row → Option ℕ → Type 0
IsLastBelow bound row None = (n : ℕ) → n < bound → row.coefficient n ≡ pos 0
IsLastBelow bound row (Some last) = (last < bound) × ((n : ℕ) → last < n → n < bound → row.coefficient n ≡ pos 0)

-- the quotient, where the divisor divides the number
abbrev pub exact : ℤ → ℤ → Option ℤ
exact number divisor = if int_eq (divisor *ℤ quotient number divisor) number then Some (quotient number divisor) else None

-- what a node stands for in a row
abbrev pub product_term : ℕ → Option ℤ → Term
product_term b None = terms.Atom
product_term b (Some k) = terms.Multiple k b

abbrev pub term_of_parts : List Node → Op → List ℕ → Term
term_of_parts nodes (ops.Number k) parts = terms.Literal k
term_of_parts nodes ops.Plus (a ∷ b ∷ []) = terms.Sum a b
term_of_parts nodes ops.Times (a ∷ b ∷ []) = product_term b (literal_number (slice_get nodes a))
term_of_parts nodes op parts = terms.Atom

abbrev pub term_of : List Node → Option Node → Term
term_of nodes None = terms.Atom
term_of nodes (Some node) = term_of_parts nodes node.op node.parts

-- the row with so many times what a node stands for
abbrev pub with_term : Term → ℤ → Row → Row → Row
with_term (terms.Literal k) c unchanged row = with_constant (c *ℤ k) row
with_term (terms.Sum a b) c unchanged row = with_more b c (with_more a c row)
with_term (terms.Multiple k b) c unchanged row = with_more b (c *ℤ k) row
with_term terms.Atom c unchanged row = unchanged

-- the row with so many times a base, and with so many times a base and a number
abbrev pub with_base : Option ℕ → ℤ → Row → Row
with_base None c row = row
with_base (Some base) c row = with_more base c row

abbrev pub with_offset : Offset → ℤ → Row → Row
with_offset offset c row = with_constant (c *ℤ offset.constant) (with_base offset.base c row)
