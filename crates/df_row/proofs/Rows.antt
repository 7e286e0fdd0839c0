-- Rows: what their steps give, and that a node with coefficient 0 changes nothing.
use Rattle.std.proofs.Common.{to_z, of_z, ◌≡◌, ℕ, zero, suc, ◌+◌, ◌-◌, ◌<◌, ◌≤◌, ℤ, pos, ◌+ℤ◌, Bool, true, false, cond, nat_eq, List, [], ◌∷◌, slice_get, Option, Some, None, refl, sym, ap, ◌∙◌, arith}
use Rattle.std.proofs.lemmas.Int.{ints}
use Rattle.std.proofs.lemmas.Option.{cond_some}
use Rattle.std.specs.Option.{option_and_then}
use Rattle.std.specs.Int.{w128}
use Rattle.std.specs.Int.RustNames.{FitsSigned}
use Rattle.std.proofs.lemmas.Bool.{eqb-true}
use Rattle.std.proofs.Math.IntN.{+ℤ_idr, zero-*ℤ}
use Rattle.df_form.specs.declared.node.Op.{Op}
use Rattle.df_form.specs.declared.node.Op.TheVariants as ops
use Rattle.df_form.specs.Node.{Node}
use Rattle.df_row.specs.declared.expansion.Term.{Term}
use Rattle.df_row.specs.declared.expansion.Term.TheVariants as terms
use Rattle.df_row.specs.declared.row.RowFault.{RowFault}
use Rattle.df_row.specs.declared.row.RowFault.TheVariants as faults
use Rattle.df_row.specs.Row.{Row, fits, with_coefficient, with_more, with_constant, without, literal_number, with_product, expanded_parts, expanded_at, expanded_below, row_fits, narrow_row}
use Rattle.df_row.specs.RowView.{Fails, narrow, if_fits, fitting_constant, IsLastBelow, product_term, term_of_parts, term_of, with_term}

-- a number as a call passes it
abbrev pub passed : ℤ → ℤ
passed z = to_z w128 (of_z w128 z)

-- what a number stands for says how the row goes on
times_term : (c : ℤ) (b : ℕ) (k : Option ℤ) (unchanged row : Row) → with_product c b k unchanged row ≡ with_term (product_term b k) c unchanged row
times_term c b None unchanged row = refl
times_term c b (Some k) unchanged row = refl

parts_term : (nodes : List Node) (c : ℤ) (op : Op) (parts : List ℕ) (unchanged row : Row) → expanded_parts nodes c op parts unchanged row ≡ with_term (term_of_parts nodes op parts) c unchanged row
parts_term nodes c (ops.Number k) parts unchanged row = refl
parts_term nodes c ops.Plus (a ∷ b ∷ []) unchanged row = refl
parts_term nodes c ops.Times (a ∷ b ∷ []) unchanged row = times_term c b (literal_number (slice_get nodes a)) unchanged row
parts_term nodes c op parts unchanged row = refl

pub at_term : (nodes : List Node) (n : ℕ) (node : Option Node) (row : Row) → expanded_at nodes n node row ≡ with_term (term_of nodes node) (row.coefficient n) row (without n row)
at_term nodes n None row = refl
at_term nodes n (Some node) row = parts_term nodes (row.coefficient n) node.op node.parts row (without n row)

-- the parts of a step
pub as_term : (nodes : List Node) (n : ℕ) (node : Option Node) (row taken : Row) (term : Term) (c : ℤ) → term ≡ term_of nodes node → c ≡ row.coefficient n → taken ≡ without n row → expanded_at nodes n node row ≡ with_term term c row taken
as_term nodes n node row taken term c is at out = rw (is, at, out) (at_term nodes n node row)

pub if_narrow : {A : Type 0} (z more : ℤ) (f : ℤ → Option A) → narrow z ≡ Some more → if_fits z (f z) ≡ f more
if_narrow z more f e = let both = cond_some (fits z) z more e in rw (both.0, both.1) refl

pub constant_same : (c : ℤ) (row : Row) → passed c ≡ c → fitting_constant c row ≡ fitting_constant (passed c) row
constant_same c row is = ap (λ x. fitting_constant x row) (sym is)

-- a refusal stays one
pub fails_on : {A B : Type 0} (fault : RowFault) (f : A → Option B) (found : Option A) → Fails fault found → Fails fault (option_and_then f found)
fails_on faults.Refused f found none = ap (option_and_then f) none
fails_on faults.Memory f found none = tt

-- a coefficient that stays
same_coefficient : (f : ℕ → ℤ) (n : ℕ) (c : ℤ) (m : ℕ) → c ≡ f n → with_coefficient f n c m ≡ f m
same_coefficient f n c m e = by (nat_eq m n) refl
  where
    by : (v : Bool) → nat_eq m n ≡ v → with_coefficient f n c m ≡ f m
    by true v = ap (λ t. cond t c (f m)) v ∙ e ∙ ap f (sym (eqb-true m n v))
    by false v = ap (λ t. cond t c (f m)) v

with_same : (row : Row) (n : ℕ) (c : ℤ) → c ≡ row.coefficient n → let r : Row = record { coefficient = with_coefficient row.coefficient n c; constant = row.constant } in r ≡ row
with_same row n c e = λ i. record { coefficient = λ m. same_coefficient row.coefficient n c m e i; constant = row.constant }

without_zero : (row : Row) (n : ℕ) → row.coefficient n ≡ pos 0 → without n row ≡ row
without_zero row n e = with_same row n (pos 0) (sym e)

more_zero : (row : Row) (n : ℕ) → with_more n (pos 0) row ≡ row
more_zero row n = with_same row n (row.coefficient n +ℤ pos 0) (+ℤ_idr (row.coefficient n))

pub constant_zero : (row : Row) → with_constant (pos 0) row ≡ row
constant_zero row = λ i. record { coefficient = row.coefficient; constant = +ℤ_idr row.constant i }

term_zero : (term : Term) (row : Row) → with_term term (pos 0) row row ≡ row
term_zero (terms.Literal k) row = ap (λ z. with_constant z row) (zero-*ℤ k) ∙ constant_zero row
term_zero (terms.Sum a b) row = ap (with_more b (pos 0)) (more_zero row a) ∙ more_zero row b
term_zero (terms.Multiple k b) row = ap (λ z. with_more b z row) (zero-*ℤ k) ∙ more_zero row b
term_zero terms.Atom row = refl

-- a node with coefficient 0 changes nothing
pub at_zero : (nodes : List Node) (n : ℕ) (row : Row) → row.coefficient n ≡ pos 0 → expanded_at nodes n (slice_get nodes n) row ≡ row
at_zero nodes n row none =
    let step = as_term nodes n (slice_get nodes n) row row (term_of nodes (slice_get nodes n)) (pos 0) refl (sym none) (sym (without_zero row n none)) in
    step ∙ term_zero (term_of nodes (slice_get nodes n)) row

-- and so for the nodes from a number up
skip_by : (nodes : List Node) (row : Row) (k d : ℕ) → ((m : ℕ) → k ≤ m → m < d + k → row.coefficient m ≡ pos 0) → expanded_below nodes (d + k) row ≡ expanded_below nodes k row
skip_by nodes row k zero none = let e : 0 + k ≡ k = omega arith in ap (λ x. expanded_below nodes x row) e
skip_by nodes row k (suc d) none =
    let e : suc d + k ≡ suc (d + k) = omega arith in
    let here = at_zero nodes (d + k) row (none (d + k) (omega arith) (omega arith)) in
    let others = skip_by nodes row k d (λ m low high. none m low (omega (arith, low, high))) in
    ap (λ x. expanded_below nodes x row) e ∙ ap (expanded_below nodes (d + k)) here ∙ others

pub skip : (nodes : List Node) (row : Row) (k n : ℕ) → k ≤ n → ((m : ℕ) → k ≤ m → m < n → row.coefficient m ≡ pos 0) → expanded_below nodes n row ≡ expanded_below nodes k row
skip nodes row k n low none =
    let e : (n - k) + k ≡ n = omega arith in
    ap (λ x. expanded_below nodes x row) (sym e) ∙ skip_by nodes row k (n - k) (λ m at less. none m at (omega (arith, e, less)))

-- one way down: the last node below the bound comes next
pub goes_down : (nodes : List Node) (bound n : ℕ) (row : Row) → IsLastBelow bound row (Some n) → expanded_below nodes bound row ≡ expanded_below nodes n (expanded_at nodes n (slice_get nodes n) row)
goes_down nodes bound n row last = skip nodes row (suc n) bound (omega (arith, last.0)) (λ m low high. last.1 m (omega (arith, low)) high)

pub is_down : (nodes : List Node) (bound : ℕ) (row : Row) → IsLastBelow bound row None → expanded_below nodes bound row ≡ row
is_down nodes bound row last = skip nodes row 0 bound (omega arith) (λ m low high. last m high)

-- a narrow row is the row, whose numbers fit
pub narrow_row_is : (count : ℕ) (row new : Row) → narrow_row count row ≡ Some new → (new ≡ row) × (row_fits count row ≡ true)
narrow_row_is count row new e = let both = cond_some (row_fits count row) row new e in (sym both.1, both.0)

pub fits_from : (z : ℤ) → FitsSigned w128 z → fits z ≡ true
fits_from z h = grind (arith, ints)
