use Rattle.std.proofs.Common.{◌≡◌, map, drop}
use Rattle.std.specs.List.{find}
use Rattle.df_form.specs.Symbol.{entry_of}
use Rattle.df_logtext.specs.Words.{is_bare_row}
use Rattle.df_logtext.proofs.words.find_bare.Given as goal

abbrev pub invariant-loop-row : goal.invariant-loop-row
invariant-loop-row l = find (is_bare_row l.word) (map entry_of (drop l.row-index l.rows)) ≡ find (is_bare_row l.word) (map entry_of l.rows)
