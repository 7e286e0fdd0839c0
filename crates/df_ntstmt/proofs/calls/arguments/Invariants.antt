use Rattle.std.proofs.Common.{◌≡◌, map, drop, Some}
use Rattle.df_lang.specs.ExprView as typed
use Rattle.df_ntree.specs.Expr.{expr_of, arguments_of}
use Rattle.df_ntstmt.specs.mirror.Steps.{in_front}
use Rattle.df_ntstmt.specs.mirror.Sides.{arguments_in}
use Rattle.df_ntstmt.proofs.calls.arguments.Given as goal

-- the arguments so far, in front of those that are left, are all
abbrev pub invariant-loop-i : goal.invariant-loop-i
invariant-loop-i l =
    in_front (map typed.expr_of l.arguments.items) (arguments_in l.env (map Some (drop l.i l.places)) (arguments_of (map expr_of (drop l.i l.all)))) ≡ arguments_in l.env (map Some l.places) (arguments_of (map expr_of l.all))
