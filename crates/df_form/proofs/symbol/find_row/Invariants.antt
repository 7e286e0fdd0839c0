use Rattle.std.proofs.Common.{◌≡◌, map, drop}
use Rattle.std.specs.List.{find}
use Rattle.df_form.specs.Symbol.{entry_of, is_row}
use Rattle.df_form.proofs.symbol.find_row.Given as goal

abbrev pub invariant-loop-row : goal.invariant-loop-row
invariant-loop-row l = find (is_row l.symbol) (map entry_of (drop l.row-index l.rows)) ≡ find (is_row l.symbol) (map entry_of l.rows)
