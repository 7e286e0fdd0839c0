use Rattle.df_nlocals.proofs.Words.{◌≡◌, ◌++◌, drop, stmts_in, branches_in, changed_by_all, changed_by_branches, changed_in}
use Rattle.df_nlocals.proofs.changed.+changed.Given as goal

-- the locals so far, in front of those of what is left, are those of all
abbrev pub invariant-by_stmts-loop-stmt : goal.invariant-by_stmts-loop-stmt
invariant-by_stmts-loop-stmt l = changed_in l.changed.items ++ changed_by_all (stmts_in (drop l.stmt-index l.stmt-items)) ≡ changed_in l.fn.changed.items ++ changed_by_all (stmts_in l.stmt-items)

abbrev pub invariant-by_branches-loop-branch : goal.invariant-by_branches-loop-branch
invariant-by_branches-loop-branch l = changed_in l.changed.items ++ changed_by_branches (branches_in (drop l.branch-index l.branch-items)) ≡ changed_in l.fn.changed.items ++ changed_by_branches (branches_in l.branch-items)
