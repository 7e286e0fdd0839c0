use Rattle.std.proofs.lemmas.Result.{err_from_is_err_and}
use Rattle.df_ntree.specs.File.{operand_of}
use Rattle.df_nnames.specs.Faults.{operand_faults}
use Rattle.df_nnames.specs.Meanings.{meanings_of}
use Rattle.df_nnames.proofs.Telling.{row_goes_on, row_stops_at}
use Rattle.df_nnames.proofs.statements.operands.Goals as goal

pub returns-in_err-operand : goal.returns-in_err-operand
returns-in_err-operand c =
    let p = err_from_is_err_and c.from_residual.result c.from_residual.ensures.1 in
    rw (p.1, p.2) (row_stops_at (operand_faults (meanings_of c.args.globals.now) c.args.scope.now) operand_of c.args.all.now c.loop-each.each-index c.each-item.result _ c.loop-each-test.true c.each-item.is c.loop-each.invariant c.in_err-operand.field-0.0 c.in_err-operand.ensures)

pub loop-each-preserved : goal.loop-each-preserved
loop-each-preserved c =
    row_goes_on (operand_faults (meanings_of c.args.globals.now) c.args.scope.now) operand_of c.args.all.now c.loop-each.each-index c.each-item.result _ c.loop-each-test.true c.each-item.is c.loop-each.invariant c.in_ok-operand.ensures
