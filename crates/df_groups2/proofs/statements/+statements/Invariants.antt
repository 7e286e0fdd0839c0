use Rattle.std.proofs.Common.{◌≡◌, ◌++◌, drop}
use Rattle.df_types.specs.Gathering.{gather_stmts, gather_branches}
use Rattle.df_types.specs.Calls.{called, called_by}
use Rattle.df_groups2.specs.Parts.{stmts_in, branches_in}
use Rattle.df_groups2.proofs.statements.+statements.Given as goal

-- the calls so far, in front of those of what is left, are those of all
abbrev pub invariant-of_stmts-loop-stmt : goal.invariant-of_stmts-loop-stmt
invariant-of_stmts-loop-stmt l = l.callees.items ++ gather_stmts called called_by (stmts_in (drop l.stmt-index l.stmt-items)) ≡ l.fn.callees.items ++ gather_stmts called called_by (stmts_in l.stmt-items)

abbrev pub invariant-of_branches-loop-branch : goal.invariant-of_branches-loop-branch
invariant-of_branches-loop-branch l = l.callees.items ++ gather_branches called called_by (branches_in (drop l.branch-index l.branch-items)) ≡ l.fn.callees.items ++ gather_branches called called_by (branches_in l.branch-items)
