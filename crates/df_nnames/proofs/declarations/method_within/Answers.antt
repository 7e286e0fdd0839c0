use Rattle.std.proofs.lemmas.Result.{err_from_is_err_and}
use Rattle.df_ntree.specs.File.{method_of}
use Rattle.df_nnames.specs.Meanings.{meanings_of}
use Rattle.df_nnames.proofs.Parts.{signature_told, behaviour_told, behaviour_clear}
use Rattle.df_nnames.proofs.declarations.method_within.Goals as goal

pub returns-in_err-signature-clause-faults : goal.returns-in_err-signature-clause-faults
returns-in_err-signature-clause-faults c =
    let p = err_from_is_err_and c.from_residual.result c.from_residual.ensures.1 in
    rw (p.1, p.2) (signature_told (meanings_of c.args.globals.now) (method_of c.args.method.now) c.in_err-signature.field-0.0 c.args.before.now c.args.both.now c.requires.before c.requires.both c.in_err-signature.ensures.faults)

pub returns-in_err-behaviour-clause-faults : goal.returns-in_err-behaviour-clause-faults
returns-in_err-behaviour-clause-faults c =
    let p = err_from_is_err_and c.from_residual-in_err-behaviour.result c.from_residual-in_err-behaviour.ensures.1 in
    rw (p.1, p.2) (behaviour_told (meanings_of c.args.globals.now) (method_of c.args.method.now) c.in_err-behaviour.field-0.0 c.args.before.now c.args.both.now c.signature.new.before c.signature.new.both c.requires.before c.requires.both
    c.in_ok-signature.ensures.faults c.in_ok-signature.ensures.before c.in_ok-signature.ensures.both c.in_err-behaviour.ensures)

pub returns-clause-faults : goal.returns-clause-faults
returns-clause-faults c =
    behaviour_clear (meanings_of c.args.globals.now) (method_of c.args.method.now) c.args.before.now c.args.both.now c.signature.new.before c.signature.new.both c.requires.before c.requires.both
    c.in_ok-signature.ensures.faults c.in_ok-signature.ensures.before c.in_ok-signature.ensures.both c.in_ok-behaviour.ensures
