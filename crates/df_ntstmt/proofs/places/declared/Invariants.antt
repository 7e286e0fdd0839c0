use Rattle.std.proofs.Common.{◌≡◌, ◌+◌, map, drop}
use Rattle.df_ntree.specs.Expr.{expr_of}
use Rattle.df_ntstmt.specs.mirror.Steps.{in_front}
use Rattle.df_ntstmt.specs.mirror.Sides.{variables_in}
use Rattle.df_ntstmt.proofs.places.declared.Given as goal

-- the locals so far, in front of those that are left, are all
abbrev pub invariant-loop-i : goal.invariant-loop-i
invariant-loop-i l =
    in_front l.places.items (variables_in l.env (l.first + l.i) (map expr_of l.values) (drop l.i l.locals)) ≡ variables_in l.env l.env.next (map expr_of l.values) l.locals
