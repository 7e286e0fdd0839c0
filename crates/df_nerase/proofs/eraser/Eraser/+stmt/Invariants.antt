use Rattle.std.proofs.Common.{◌≡◌, take, map}
use Rattle.std.specs.List.{filter_map}
use Rattle.df_lang.specs.StmtView.{stmt_of}
use Rattle.df_nplain.specs.StmtView as plain
use Rattle.df_nerase.specs.Views.{branch_of}
use Rattle.df_nerase.specs.Eraser.{program_in}
use Rattle.df_nerase.specs.Erasing.{erase_stmt}
use Rattle.df_nerase.proofs.Erased.{erase_branch}
use Rattle.df_nerase.proofs.eraser.Eraser.+stmt.Given as goal

abbrev pub invariant-stmts-loop-one : goal.invariant-stmts-loop-one
invariant-stmts-loop-one l = map plain.stmt_of l.erased.items ≡ filter_map (erase_stmt (program_in l.self)) (map stmt_of (take l.one-index l.all.items))

abbrev pub invariant-branches-loop-branch : goal.invariant-branches-loop-branch
invariant-branches-loop-branch l = map plain.branch_of l.erased.items ≡ map (erase_branch (program_in l.self)) (map branch_of (take l.branch-index l.all.items))
