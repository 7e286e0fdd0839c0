use Rattle.std.proofs.lemmas.Result.{err_from_is_err_and}
use Rattle.df_ntree.specs.File.{clause_of}
use Rattle.df_nnames.specs.Faults.{clause_faults}
use Rattle.df_nnames.specs.Meanings.{meanings_of}
use Rattle.df_nnames.proofs.Telling.{row_goes_on, row_stops_at}
use Rattle.df_nnames.proofs.statements.clauses.Goals as goal

pub returns-in_err-clause : goal.returns-in_err-clause
returns-in_err-clause c =
    let p = err_from_is_err_and c.from_residual.result c.from_residual.ensures.1 in
    rw (p.1, p.2) (row_stops_at (clause_faults (meanings_of c.args.globals.now) c.args.scope.now) clause_of c.args.all.now c.loop-each.each-index c.each-item.result _ c.loop-each-test.true c.each-item.is c.loop-each.invariant c.in_err-clause.field-0.0 c.in_err-clause.ensures)

pub loop-each-preserved : goal.loop-each-preserved
loop-each-preserved c =
    row_goes_on (clause_faults (meanings_of c.args.globals.now) c.args.scope.now) clause_of c.args.all.now c.loop-each.each-index c.each-item.result _ c.loop-each-test.true c.each-item.is c.loop-each.invariant c.in_ok-clause.ensures
