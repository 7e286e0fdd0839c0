use Rattle.std.proofs.Common.{◌≡◌}
use Rattle.std.proofs.lemmas.Result.{err_from_is_err_and}
use Rattle.df_nnames.specs.Faults.{with_parameters}
use Rattle.df_nnames.proofs.Telling.{told_left, told_right, none_of}
use Rattle.df_nnames.proofs.declarations.signature.Goals as goal

pub returns-in_err-parameters-clause-faults : goal.returns-in_err-parameters-clause-faults
returns-in_err-parameters-clause-faults c =
    let p = err_from_is_err_and c.from_residual.result c.from_residual.ensures.1 in
    rw (p.1, p.2) (told_left c.in_err-parameters.field-0.0 _ _ (rw c.deref.ensures.value at c.in_err-parameters.ensures.faults))

pub returns-in_err-results-clause-faults : goal.returns-in_err-results-clause-faults
returns-in_err-results-clause-faults c =
    let p = err_from_is_err_and c.from_residual-in_err-results.result c.from_residual-in_err-results.ensures.1 in
    let none = rw c.deref.ensures.value at c.in_ok-parameters.ensures.faults in
    let both : c.declare_all.new.scope ≡ with_parameters c.args.both.now c.args.method.now.parameters.items = rw c.deref-2.ensures.value at c.in_ok-declare_all.ensures in
    rw (p.1, p.2) (told_right c.in_err-results.field-0.0 _ _ none (rw both at c.in_err-results.ensures.faults))

pub returns-clause-faults : goal.returns-clause-faults
returns-clause-faults c =
    let both : c.declare_all.new.scope ≡ with_parameters c.args.both.now c.args.method.now.parameters.items = rw c.deref-2.ensures.value at c.in_ok-declare_all.ensures in
    none_of _ _ (rw c.deref.ensures.value at c.in_ok-parameters.ensures.faults) (rw both at c.in_ok-results.ensures.faults)
