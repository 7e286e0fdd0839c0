use Rattle.std.proofs.Common.{◌≡◌, map, drop}
use Rattle.df_lang.specs.StmtView.{stmt_of}
use Rattle.df_ntree.specs.File as source
use Rattle.df_ntree.specs.File.{statement_of, statements_of}
use Rattle.df_ntyping.specs.Environment.{past, locals_in_branches}
use Rattle.df_ntstmt.specs.Views.{branch_of}
use Rattle.df_ninfer.specs.Behind.{behind_all}
use Rattle.df_ntstmt.specs.mirror.Statements.{statements_in, branches_in, before_stmts, before_branches}
use Rattle.df_ntstmt.proofs.statements.+statement.Given as goal

-- the statements so far, in front of those that are left, are all
abbrev pub invariant-statements-loop-each : goal.invariant-statements-loop-each
invariant-statements-loop-each l =
    (before_stmts (map stmt_of l.stmts.items) (statements_in l.env (statements_of (map statement_of (drop l.each-index l.each-items)))) ≡ statements_in l.fn.env (statements_of (map statement_of l.each-items)))
    × (behind_all l.env (statements_of (map statement_of (drop l.each-index l.each-items))) ≡ behind_all l.fn.env (statements_of (map statement_of l.each-items)))

abbrev pub invariant-branches-loop-each : goal.invariant-branches-loop-each
invariant-branches-loop-each l =
    (before_branches (map branch_of l.branches.items) (branches_in l.env (source.branches_of (map source.branch_of (drop l.each-index l.each-items)))) ≡ branches_in l.fn.env (source.branches_of (map source.branch_of l.each-items)))
    × (past l.env (locals_in_branches (source.branches_of (map source.branch_of (drop l.each-index l.each-items)))) ≡ past l.fn.env (locals_in_branches (source.branches_of (map source.branch_of l.each-items))))
