use Rattle.std.proofs.Common.{List}
use Rattle.std.proofs.lemmas.Result.{err_from_is_err_and}
use Rattle.df_ntstmt.specs.declared.places.Place.{Place}
use Rattle.df_ntstmt.proofs.LoopedSides.{place_goes, place_stops}
use Rattle.df_ntstmt.proofs.places.assigned.Goals as goal

pub loop-e-preserved : goal.loop-e-preserved
loop-e-preserved c =
    rw c.in_ok-push.ensures.items (place_goes c.args.env.now c.args.targets.now c.loop-e.e-index c.e-item.result c.loop-e.places.items c.in_ok-one.one _ c.loop-e-test.true c.e-item.is c.in_ok-one.ensures c.loop-e.invariant)

pub returns-in_err-one : goal.returns-in_err-one
returns-in_err-one c =
    let p = err_from_is_err_and c.from_residual.result c.from_residual.ensures.1 in
    rw (p.1, p.2)
    (place_stops (λ (x : Place). x) (λ (xs : List Place). xs) c.in_err-one.field-0.0 c.args.env.now c.args.targets.now c.loop-e.e-index c.e-item.result c.loop-e.places.items _ c.loop-e-test.true c.e-item.is c.in_err-one.ensures c.loop-e.invariant)
