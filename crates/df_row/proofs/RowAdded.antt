-- So many times a node more.
use Rattle.std.proofs.Common.{◌≡◌, ℕ, ℤ, ◌+ℤ◌, cond, List, Some, None, sym, ap, ◌∙◌}
use Rattle.std.proofs.lemmas.Option.{cond_some}
use Rattle.std.specs.Ordering.{nat_cmp}
use Rattle.std.specs.BTreeMap.{is_at}
use Rattle.df_row.specs.declared.row.RowFault.{RowFault}
use Rattle.df_row.specs.declared.row.RowFault.TheVariants as faults
use Rattle.df_row.specs.Row.{Row, fits, with_coefficient, with_more}
use Rattle.df_row.specs.RowView.{coefficient_at, Fails, narrow, fitting_more}
use Rattle.df_row.proofs.RowFold.{found, put_entry}
use Rattle.df_row.proofs.RowSums.{unfit}

-- the sum is put in the place of the node
pub added : (old new : List (ℕ × ℤ)) (constant : ℤ) (n : ℕ) (c more : ℤ) → narrow (coefficient_at old n +ℤ c) ≡ Some more → ((q : ℕ) → found new q ≡ cond (is_at (nat_cmp n) q) (Some more) (found old q))
    → fitting_more n c (record { coefficient = coefficient_at old; constant = constant }) ≡ Some (record { coefficient = coefficient_at new; constant = constant })
added old new constant n c more fitting puts =
    let sum : ℤ = coefficient_at old n +ℤ c in
    let both = cond_some (fits sum) sum more fitting in
    let whole : Row = record { coefficient = with_coefficient (coefficient_at old) n sum; constant = constant } in
    let made : Row = record { coefficient = coefficient_at new; constant = constant } in
    let coefficients : with_coefficient (coefficient_at old) n sum ≡ coefficient_at new = ap (with_coefficient (coefficient_at old) n) both.1 ∙ sym (put_entry old new n more puts) in
    let rows : whole ≡ made = λ i. record { coefficient = coefficients i; constant = constant } in
    ap (λ t. cond t (Some whole) None) both.0 ∙ ap Some rows

-- where the sum is past 128 bits there is no row
pub not_added : (fault : RowFault) (n : ℕ) (c : ℤ) (row : Row) → Fails fault (narrow (row.coefficient n +ℤ c)) → Fails fault (fitting_more n c row)
not_added faults.Memory n c row none = tt
not_added faults.Refused n c row none = unfit (row.coefficient n +ℤ c) (Some (with_more n c row)) none
