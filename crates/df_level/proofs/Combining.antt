-- Sums of rows, from those of their entries.
use Rattle.std.proofs.Common.{◌≡◌, ℕ, ℤ, List, Some, Err, sym, ap, ◌∙◌}
use Rattle.df_row.specs.Row.{Row, fits}
use Rattle.df_row.specs.RowView.{narrow, IsNarrow}
use Rattle.df_level.specs.declared.fault.RowFault.{RowFault}
use Rattle.df_level.specs.declared.fault.RowFault.TheVariants as faults
use Rattle.df_level.specs.Exact.{weighted}
use Rattle.df_level.specs.Entries.{coefficient_of}
use Rattle.df_level.specs.Row.{entries_row, weighted_row, at_node, GivesRow}
use Rattle.df_level.specs.Merge.{IsSum, GivesSum}
use Rattle.df_level.proofs.Merging.{fits_of}

module _ (f : ℤ) (left : List (ℕ × ℤ)) (k g : ℤ) (right : List (ℕ × ℤ)) (l : ℤ) where
  abbrev whole : Row
  whole = weighted_row f (entries_row left k) g (entries_row right l)

  pub sum_gives : (sum : List (ℕ × ℤ)) (m : ℤ) → IsSum f left g right sum → narrow (weighted f k g l) ≡ Some m → (entries_row sum m ≡ whole) × IsNarrow whole
  sum_gives sum m s some =
      let is = fits_of (weighted f k g l) m some in
      (λ i. record { coefficient = λ n. s.each n i; constant = sym is.1 i }, record { coefficients = s.fitting; constant = is.0 })

  pub sum_row : (a b sum : List (ℕ × ℤ)) (m z : ℤ) → IsSum f a g b sum → a ≡ left → b ≡ right → narrow (weighted f k g l) ≡ Some m → z ≡ m → (entries_row sum z ≡ whole) × IsNarrow whole
  sum_row a b sum m z s p q some e =
      let same : IsSum f left g right sum = rw p at (rw q at s) in
      rw e (sum_gives sum m same some)

  pub fault_row : (a b : List (ℕ × ℤ)) (fault : RowFault) → GivesSum f a g b (Err fault) → a ≡ left → b ≡ right → GivesRow (Err fault) whole
  fault_row a b faults.Wide wide p q = at_node wide.0 (ap (λ es. fits (weighted f (coefficient_of es wide.0) g (coefficient_of right wide.0))) (sym p) ∙ ap (λ es. fits (weighted f (coefficient_of a wide.0) g (coefficient_of es wide.0))) (sym q) ∙ wide.1)
  fault_row a b faults.Memory wide p q = tt
