use Rattle.std.proofs.Common.{◌≡◌, map, drop}
use Rattle.df_ntexpr.specs.Parts.{row_of}
use Rattle.df_ntyping.specs.mirror.Signs.{first_type}
use Rattle.df_ntexpr.proofs.signs.first_type.Given as goal

abbrev pub invariant-loop-row : goal.invariant-loop-row
invariant-loop-row l = first_type (map row_of (drop l.row-index l.rows)) ≡ first_type (map row_of l.fn.rows)
