use Rattle.std.proofs.lemmas.Result.{err_from_is_err_and}
use Rattle.df_ntree.specs.File.{clause_of}
use Rattle.df_nnames.specs.Faults.{contract_faults}
use Rattle.df_nnames.specs.Meanings.{meanings_of}
use Rattle.df_nnames.proofs.Telling.{row_goes_on, row_stops_at}
use Rattle.df_nnames.proofs.declarations.contract.Goals as goal

pub returns-in_err-contract_clause : goal.returns-in_err-contract_clause
returns-in_err-contract_clause c =
    let p = err_from_is_err_and c.from_residual.result c.from_residual.ensures.1 in
    rw (p.1, p.2) (row_stops_at (contract_faults (meanings_of c.args.globals.now) c.args.parameters.now c.args.both.now) clause_of c.args.all.now c.loop-each.each-index c.each-item.result _ c.loop-each-test.true c.each-item.is c.loop-each.invariant c.in_err-contract_clause.field-0.0 c.in_err-contract_clause.ensures)

pub loop-each-preserved : goal.loop-each-preserved
loop-each-preserved c =
    row_goes_on (contract_faults (meanings_of c.args.globals.now) c.args.parameters.now c.args.both.now) clause_of c.args.all.now c.loop-each.each-index c.each-item.result _ c.loop-each-test.true c.each-item.is c.loop-each.invariant c.in_ok-contract_clause.ensures
