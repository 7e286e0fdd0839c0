use Rattle.std.proofs.Common.{ap}
use Rattle.std.proofs.lemmas.Result.{err_from_is_err_and}
use Rattle.df_lang.specs.View.{program_of}
use Rattle.df_nfront.proofs.Lawful.{lawful_after}
use Rattle.df_nfront.proofs.Refusals.{use_told}
use Rattle.df_nfront.proofs.reading.read.Goals as goal

pub returns-in_err-program-clause-refused : goal.returns-in_err-program-clause-refused
returns-in_err-program-clause-refused c =
    let p = err_from_is_err_and c.from_residual.result c.from_residual.ensures.1 in
    rw (p.1, p.2) c.in_err-program.ensures.refused

pub returns-in-Err-clause-refused : goal.returns-in-Err-clause-refused
returns-in-Err-clause-refused c = use_told c.args.source.now _ (program_of c.in_ok-program.program) c.in-Err.rejected.stop c.in_ok-program.ensures.elaborated c.in-Err.ensures.refused

pub returns-in-Ok-clause-lawful : goal.returns-in-Ok-clause-lawful
returns-in-Ok-clause-lawful c =
    lawful_after c.args.source.now _ (program_of c.in_ok-program.program) (program_of c.in-Ok.checked.program) (ap program_of c.in-Ok.ensures.same) c.in_ok-program.ensures.elaborated c.in-Ok.checked.definite
