use Rattle.std.proofs.Common.{◌≡◌, ◌≤◌, length, drop, map}
use Rattle.df_nplain.specs.View.{plain_of}
use Rattle.df_nplain.specs.StmtView.{stmt_of, stmts_of, branch_of, branches_of}
use Rattle.df_nemit.specs.mirror.Drafts.{draft_of, choice_of}
use Rattle.df_nemit.specs.mirror.Emitting as mirror
use Rattle.df_nemit.proofs.statements.+stmt.Given as goal

abbrev pub invariant-stmts-loop-one : goal.invariant-stmts-loop-one
invariant-stmts-loop-one l = record {
  longer : length l.fn.draft.code.items ≤ length l.draft.code.items;
  rest : mirror.emit_stmts (plain_of l.plain) l.scratch (draft_of l.draft) (stmts_of (map stmt_of (drop l.one-index l.all.items))) ≡ mirror.emit_stmts (plain_of l.plain) l.scratch (draft_of l.fn.draft) (stmts_of (map stmt_of l.all.items));
}

abbrev pub invariant-choices-loop-one : goal.invariant-choices-loop-one
invariant-choices-loop-one l = record {
  longer : length l.fn.draft.code.items ≤ length l.draft.code.items;
  rest : mirror.emit_branches (plain_of l.plain) l.scratch (choice_of l.draft l.exits) (branches_of (map branch_of (drop l.one-index l.branches.items))) ≡ mirror.emit_branches (plain_of l.plain) l.scratch (choice_of l.fn.draft l.fn.exits) (branches_of (map branch_of l.branches.items));
}
