use Rattle.std.proofs.Common.{◌≡◌, drop, map}
use Rattle.df_lang.specs.StmtView.{stmt_of, stmts_of, branches_of}
use Rattle.df_nerase.specs.Views.{branch_of}
use Rattle.df_nerase.specs.mirror.Finding.{found_of, find_in_all, find_in_branches}
use Rattle.df_nerase.proofs.native.+stmt.Given as goal

abbrev pub invariant-stmts-loop-one : goal.invariant-stmts-loop-one
invariant-stmts-loop-one l = find_in_all (found_of l.found) (stmts_of (map stmt_of (drop l.one-index l.all.items))) ≡ find_in_all (found_of l.fn.found) (stmts_of (map stmt_of l.all.items))

abbrev pub invariant-branches-loop-branch : goal.invariant-branches-loop-branch
invariant-branches-loop-branch l = find_in_branches (found_of l.found) (branches_of (map branch_of (drop l.branch-index l.all.items))) ≡ find_in_branches (found_of l.fn.found) (branches_of (map branch_of l.all.items))
