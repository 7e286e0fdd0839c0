use Rattle.std.proofs.Common.{◌≡◌, drop, map}
use Rattle.df_ntree.specs.Expr.{expr_of}
use Rattle.df_nnames.specs.Faults.{exprs_faults}
use Rattle.df_nnames.specs.Meanings.{meanings_of}
use Rattle.df_nnames.proofs.expressions.exprs.Given as goal

abbrev pub invariant-loop-each : goal.invariant-loop-each
invariant-loop-each l = exprs_faults (meanings_of l.globals) l.scope (map expr_of (drop l.each-index l.all)) ≡ exprs_faults (meanings_of l.globals) l.scope (map expr_of l.all)
