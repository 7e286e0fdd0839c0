use Rattle.std.proofs.Common.{◌≡◌, take, map}
use Rattle.df_lang.specs.ExprView.{expr_of}
use Rattle.df_nplain.specs.ExprView as plain
use Rattle.df_nerase.specs.Eraser.{program_in}
use Rattle.df_nerase.specs.Erasing.{erase_expr}
use Rattle.df_nerase.proofs.eraser.Eraser.exprs.Given as goal

abbrev pub invariant-loop-one : goal.invariant-loop-one
invariant-loop-one l = map plain.expr_of l.erased.items ≡ map (erase_expr (program_in l.self)) (map expr_of (take l.one-index l.all.items))
