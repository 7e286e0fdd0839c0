use Rattle.std.proofs.Common.{◌≡◌, map, drop}
use Rattle.std.specs.List.{find}
use Rattle.df_axiom.specs.Template.{entry_of}
use Rattle.df_axiom.specs.Schemas.{is_entry}
use Rattle.df_axiom.proofs.choosing.find_row.Given as goal

abbrev pub invariant-loop-row : goal.invariant-loop-row
invariant-loop-row l = find (is_entry l.op l.schema l.clause) (map entry_of (drop l.row-index l.rows)) ≡ find (is_entry l.op l.schema l.clause) (map entry_of l.rows)
