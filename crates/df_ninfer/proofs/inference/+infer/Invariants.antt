use Rattle.std.proofs.Common.{◌≡◌, map, drop}
use Rattle.df_ntree.specs.File.{statement_of, statements_of, branch_of, branches_of}
use Rattle.df_ntyping.specs.LocalTypes.{over, inferred_behind_all}
use Rattle.df_ninfer.specs.Marks.{behind_branches}
use Rattle.df_ninfer.specs.Behind.{behind_all}
use Rattle.df_ninfer.proofs.inference.+infer.Given as goal

abbrev pub invariant-infer_all-loop-statement : goal.invariant-infer_all-loop-statement
invariant-infer_all-loop-statement l =
    over (behind_all l.env (statements_of (map statement_of (drop l.statement-index l.statement-items)))) (inferred_behind_all l.env (statements_of (map statement_of (drop l.statement-index l.statement-items)))) ≡ over (behind_all l.fn.env (statements_of (map statement_of l.statement-items))) (inferred_behind_all l.fn.env (statements_of (map statement_of l.statement-items)))

abbrev pub invariant-infer_branches-loop-branch : goal.invariant-infer_branches-loop-branch
invariant-infer_branches-loop-branch l =
    behind_branches l.env (branches_of (map branch_of (drop l.branch-index l.branch-items))) ≡ behind_branches l.fn.env (branches_of (map branch_of l.branch-items))
