use Rattle.std.proofs.lemmas.Result.{err_from_is_err_and}
use Rattle.df_nnames.specs.Meanings.{meanings_of}
use Rattle.df_nnames.proofs.Parts.{parameter_told, parameter_more, scope_more, types_more}
use Rattle.df_nnames.proofs.declarations.parameters.Goals as goal

pub returns-in_err-ty-clause-faults : goal.returns-in_err-ty-clause-faults
returns-in_err-ty-clause-faults c =
    let p = err_from_is_err_and c.from_residual.result c.from_residual.ensures.1 in
    rw (p.1, p.2) (parameter_told (meanings_of c.args.globals.now) c.in_err-ty.field-0.0 c.args.all.now c.loop-each.each-index c.args.scope.now c.loop-each.scope _ c.loop-each-test.true c.in_err-ty.ensures.faults c.loop-each.invariant.0)

pub loop-each-preserved : goal.loop-each-preserved
loop-each-preserved c =
    let g = meanings_of c.args.globals.now in
    let all = c.args.all.now in
    let i = c.loop-each.each-index in
    let lt = c.loop-each-test.true in
    let step = c.in_ok-ty.ensures in (
      parameter_more g all i c.loop-each.scope c.parameter.new.scope _ _ lt step.faults step.scope c.loop-each.invariant.0,
      scope_more all i c.loop-each.scope c.parameter.new.scope _ _ lt step.scope c.loop-each.invariant.1,
      types_more g all i c.loop-each.types.items c.push.new.self.items c.in_ok-ty.ty _ _ lt step.ty c.in_ok-push.ensures.items c.loop-each.invariant.2,
    )
