use Rattle.std.proofs.lemmas.Result.{err_from_is_err_and}
use Rattle.df_nnames.specs.Meanings.{meanings_of}
use Rattle.df_nnames.proofs.Parts.{local_told}
use Rattle.df_nnames.proofs.statements.locals.Goals as goal

pub returns-in_err-local-clause-faults : goal.returns-in_err-local-clause-faults
returns-in_err-local-clause-faults c =
    let p = err_from_is_err_and c.from_residual.result c.from_residual.ensures.1 in
    rw (p.1, p.2) (local_told (meanings_of c.args.globals.now) c.in_err-local.field-0.0 c.args.all.now c.loop-each.each-index c.args.scope.now c.loop-each.scope _ c.loop-each-test.true c.in_err-local.ensures.faults c.loop-each.invariant.0)
