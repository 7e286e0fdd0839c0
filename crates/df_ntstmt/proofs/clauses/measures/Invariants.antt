use Rattle.std.proofs.Common.{◌≡◌, map, drop}
use Rattle.df_lang.specs.StmtView.{measure_of}
use Rattle.df_ntree.specs.Expr.{expr_of}
use Rattle.df_ntstmt.specs.mirror.Steps.{in_front}
use Rattle.df_ntstmt.specs.mirror.Clauses.{measures_in}
use Rattle.df_ntstmt.proofs.clauses.measures.Given as goal

-- the measures so far, in front of those that are left, are all
abbrev pub invariant-loop-e : goal.invariant-loop-e
invariant-loop-e l =
    in_front (map measure_of l.measures.items) (measures_in l.env (map expr_of (drop l.e-index l.values))) ≡ measures_in l.env (map expr_of l.values)
