use Rattle.df_nlocals.proofs.Words.{◌≡◌, drop, stmts_in, branches_in, locals_after_all, locals_after_branches}
use Rattle.df_nlocals.proofs.method.+locals.Given as goal

-- behind what is left of it stand the types that stand behind all
abbrev pub invariant-after_stmts-loop-stmt : goal.invariant-after_stmts-loop-stmt
invariant-after_stmts-loop-stmt l = locals_after_all l.types.items (stmts_in (drop l.stmt-index l.stmt-items)) ≡ locals_after_all l.fn.types.items (stmts_in l.stmt-items)

abbrev pub invariant-after_branches-loop-branch : goal.invariant-after_branches-loop-branch
invariant-after_branches-loop-branch l = locals_after_branches l.types.items (branches_in (drop l.branch-index l.branch-items)) ≡ locals_after_branches l.fn.types.items (branches_in l.branch-items)
