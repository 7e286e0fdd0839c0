use Rattle.std.proofs.Common.{◌≡◌, map, drop}
use Rattle.std.specs.List.{flat_map}
use Rattle.df_ntree.specs.File.{clause_of}
use Rattle.df_ntyping.specs.LocalTypes.{used_in_clause}
use Rattle.df_ninfer.specs.Marks.{marked}
use Rattle.df_ninfer.proofs.inference.mark_clauses.Given as goal

-- with what is left marked, all is
abbrev pub invariant-loop-clause : goal.invariant-loop-clause
invariant-loop-clause l =
    marked l.env (flat_map used_in_clause (map clause_of (drop l.clause-index l.all))) ≡ marked l.fn.env (flat_map used_in_clause (map clause_of l.all))
