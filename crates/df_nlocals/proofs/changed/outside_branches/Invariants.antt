use Rattle.df_nlocals.proofs.Words.{◌≡◌, ◌++◌, drop, branches_in, changed_in_branches, changed_in}
use Rattle.df_nlocals.proofs.changed.outside_branches.Given as goal

-- the locals so far, in front of those of what is left, are those of all
abbrev pub invariant-loop-branch : goal.invariant-loop-branch
invariant-loop-branch l = changed_in l.all.items ++ changed_in_branches (branches_in (drop l.branch-index l.branch-items)) ≡ changed_in_branches (branches_in l.branch-items)
