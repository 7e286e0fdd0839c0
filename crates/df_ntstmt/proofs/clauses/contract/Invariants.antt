use Rattle.std.proofs.Common.{◌≡◌, map, drop}
use Rattle.df_ntree.specs.File.{clause_of}
use Rattle.df_ntyping.specs.Node.{OfMethod}
use Rattle.df_ntstmt.specs.Said.{clauses_of}
use Rattle.df_ntstmt.specs.mirror.Clauses.{behind_clauses, clauses_in}
use Rattle.df_ntstmt.proofs.clauses.contract.Given as goal

-- the clauses so far, in front of those that are left, are all
abbrev pub invariant-loop-each : goal.invariant-loop-each
invariant-loop-each l =
    behind_clauses (clauses_of l.clauses) (clauses_in l.parameters l.both OfMethod (map clause_of (drop l.each-index l.all))) ≡ clauses_in l.parameters l.both OfMethod (map clause_of l.all)
