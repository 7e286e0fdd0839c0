use Rattle.std.proofs.lemmas.Result.{err_from_is_err_and}
use Rattle.df_ntree.specs.Expr.{expr_of}
use Rattle.df_nnames.specs.Faults.{expr_faults}
use Rattle.df_nnames.specs.Meanings.{meanings_of}
use Rattle.df_nnames.proofs.Telling.{row_goes_on, row_stops_at}
use Rattle.df_nnames.proofs.expressions.exprs.Goals as goal

pub returns-in_err-expr : goal.returns-in_err-expr
returns-in_err-expr c =
    let p = err_from_is_err_and c.from_residual.result c.from_residual.ensures.1 in
    rw (p.1, p.2) (row_stops_at (expr_faults (meanings_of c.args.globals.now) c.args.scope.now) expr_of c.args.all.now c.loop-each.each-index c.each-item.result _ c.loop-each-test.true c.each-item.is c.loop-each.invariant c.in_err-expr.field-0.0 c.in_err-expr.ensures)

pub loop-each-preserved : goal.loop-each-preserved
loop-each-preserved c =
    row_goes_on (expr_faults (meanings_of c.args.globals.now) c.args.scope.now) expr_of c.args.all.now c.loop-each.each-index c.each-item.result _ c.loop-each-test.true c.each-item.is c.loop-each.invariant c.in_ok-expr.ensures
