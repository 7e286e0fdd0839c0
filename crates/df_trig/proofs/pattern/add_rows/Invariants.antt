use Rattle.std.proofs.Common.{◌≡◌, ◌++◌, map, drop}
use Rattle.df_axiom.specs.Template.{entry_of}
use Rattle.df_trig.specs.Patterns.{of_entries}
use Rattle.df_trig.proofs.pattern.add_rows.Given as goal

abbrev pub invariant-loop-row : goal.invariant-loop-row
invariant-loop-row l = l.list.items ++ of_entries l.op (map entry_of (drop l.row-index l.rows)) ≡ l.fn.list.items ++ of_entries l.op (map entry_of l.rows)
