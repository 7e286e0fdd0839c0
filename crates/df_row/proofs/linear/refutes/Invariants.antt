use Rattle.std.proofs.Common.{ℕ, map, drop}
use Rattle.df_form.specs.Log.{combination_of}
use Rattle.df_row.specs.RowView.{row_of}
use Rattle.df_row.specs.LinearView.{AreWithin}
use Rattle.df_row.proofs.LinearRefutes.{IsRefuting}
use Rattle.df_row.proofs.linear.refutes.Given as goal

abbrev pub invariant-loop-combination : goal.invariant-loop-combination
invariant-loop-combination l = (count : ℕ) → AreWithin count (map row_of l.initial.rows.items) → IsRefuting count (map row_of l.initial.rows.items) (map combination_of l.combinations) (map combination_of (drop l.combination-index l.combinations)) l.is_false (map row_of l.rows.items)
