use Rattle.std.proofs.Common.{◌≡◌, drop, map}
use Rattle.df_ntree.specs.File.{statement_of, statements_of, branch_of, branches_of}
use Rattle.df_nnames.specs.Faults.{statements_faults, branches_faults}
use Rattle.df_nnames.specs.Meanings.{meanings_of}
use Rattle.df_nnames.proofs.statements.+statement.Given as goal

abbrev pub invariant-statements-loop-each : goal.invariant-statements-loop-each
invariant-statements-loop-each l =
    (l.scope.outer ≡ l.fn.scope.outer)
    × (statements_faults (meanings_of l.globals) l.scope (statements_of (map statement_of (drop l.each-index l.each-items))) ≡ statements_faults (meanings_of l.globals) l.fn.scope (statements_of (map statement_of l.each-items)))

abbrev pub invariant-branches-loop-each : goal.invariant-branches-loop-each
invariant-branches-loop-each l =
    (l.scope ≡ l.fn.scope)
    × (branches_faults (meanings_of l.globals) l.fn.scope (branches_of (map branch_of (drop l.each-index l.each-items))) ≡ branches_faults (meanings_of l.globals) l.fn.scope (branches_of (map branch_of l.each-items)))
