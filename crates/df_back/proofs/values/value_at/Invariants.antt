use Rattle.std.proofs.Common.{ℕ, drop}
use Rattle.df_row.specs.RowView.{IsWithin}
use Rattle.df_level.specs.Row.{function_row}
use Rattle.df_back.proofs.Additions.{IsAdding}
use Rattle.df_back.proofs.values.value_at.Given as goal

abbrev pub invariant-loop-entry : goal.invariant-loop-entry
invariant-loop-entry g l = (count : ℕ) → IsWithin count (function_row l.row) → IsAdding count (g.V.Valuation.numbers l.valuation) (function_row l.row) (drop l.entry-index l.entry-items) l.value
