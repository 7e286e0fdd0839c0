use Rattle.df_nlocals.proofs.Words.{◌≡◌, ◌++◌, drop, stmts_in, branches_in, declared_by_all, declared_by_branches}
use Rattle.df_nlocals.proofs.changed.+declared.Given as goal

-- the locals so far, in front of those of what is left, are those of all
abbrev pub invariant-in_stmts-loop-stmt : goal.invariant-in_stmts-loop-stmt
invariant-in_stmts-loop-stmt l = l.declared.items ++ declared_by_all (stmts_in (drop l.stmt-index l.stmt-items)) ≡ l.fn.declared.items ++ declared_by_all (stmts_in l.stmt-items)

abbrev pub invariant-in_branches-loop-branch : goal.invariant-in_branches-loop-branch
invariant-in_branches-loop-branch l = l.declared.items ++ declared_by_branches (branches_in (drop l.branch-index l.branch-items)) ≡ l.fn.declared.items ++ declared_by_branches (branches_in l.branch-items)
