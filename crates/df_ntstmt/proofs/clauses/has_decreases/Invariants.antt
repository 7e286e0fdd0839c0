use Rattle.std.proofs.Common.{◌≡◌, map, drop}
use Rattle.std.specs.List.{list_any}
use Rattle.df_ntree.specs.File.{clause_of}
use Rattle.df_ntyping.specs.rules.Loops.{is_decreases}
use Rattle.df_ntstmt.proofs.clauses.has_decreases.Given as goal

abbrev pub invariant-loop-each : goal.invariant-loop-each
invariant-loop-each l =
    list_any is_decreases (map clause_of (drop l.each-index l.all)) ≡ list_any is_decreases (map clause_of l.all)
