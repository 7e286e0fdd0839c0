use Rattle.std.proofs.Common.{◌≡◌, ◌++◌, drop}
use Rattle.df_lang.specs.Groups.{callees_of_all, callees_of_branches}
use Rattle.df_groups.specs.Parts.{stmts_in, branches_in}
use Rattle.df_groups.proofs.callees.+callees.Given as goal

-- the calls so far, in front of those of what is left, are those of all
abbrev pub invariant-of_stmts-loop-stmt : goal.invariant-of_stmts-loop-stmt
invariant-of_stmts-loop-stmt l = l.callees.items ++ callees_of_all (stmts_in (drop l.stmt-index l.stmt-items)) ≡ l.fn.callees.items ++ callees_of_all (stmts_in l.stmt-items)

abbrev pub invariant-of_branches-loop-branch : goal.invariant-of_branches-loop-branch
invariant-of_branches-loop-branch l = l.callees.items ++ callees_of_branches (branches_in (drop l.branch-index l.branch-items)) ≡ l.fn.callees.items ++ callees_of_branches (branches_in l.branch-items)
