use Rattle.std.proofs.Common.{◌≡◌, map, drop}
use Rattle.df_lang.specs.StmtView.{source_of}
use Rattle.df_ntree.specs.Expr.{expr_of}
use Rattle.df_ntstmt.specs.mirror.Steps.{in_front}
use Rattle.df_ntstmt.specs.mirror.Sides.{apart_in}
use Rattle.df_ntstmt.proofs.sources.apart.Given as goal

-- the right sides so far, in front of those that are left, are all
abbrev pub invariant-loop-i : goal.invariant-loop-i
invariant-loop-i l =
    in_front (map source_of l.sources.items) (apart_in l.env (drop l.i l.places) (map expr_of (drop l.i l.values))) ≡ apart_in l.env l.places (map expr_of l.values)
