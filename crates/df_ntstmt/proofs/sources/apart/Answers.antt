use Rattle.std.proofs.Common.{map, List}
use Rattle.std.proofs.lemmas.List.{map-append}
use Rattle.std.proofs.lemmas.Result.{err_from_is_err_and}
use Rattle.df_lang.specs.Stmt as pure
use Rattle.df_lang.specs.StmtView.{source_of}
use Rattle.df_ntstmt.proofs.LoopedSides.{source_goes, source_stops}
use Rattle.df_ntstmt.proofs.sources.apart.Goals as goal

pub loop-i-preserved : goal.loop-i-preserved
loop-i-preserved c =
    rw (c.in_ok-push.ensures.items, map-append source_of)
    (source_goes c.args.env.now c.args.places.now c.args.values.now c.loop-i.i c.index-values-i.result (map source_of c.loop-i.sources.items) c.place_at.result (source_of c.in_ok-one.one) _ c.loop-i-test.true c.index-values-i.is c.place_at.ensures c.in_ok-one.ensures c.loop-i.invariant)

pub returns-in_err-one : goal.returns-in_err-one
returns-in_err-one c =
    let p = err_from_is_err_and c.from_residual.result c.from_residual.ensures.1 in
    rw (p.1, p.2)
    (source_stops source_of (λ (xs : List pure.Source). xs) c.in_err-one.field-0.0 c.args.env.now c.args.places.now c.args.values.now c.loop-i.i c.index-values-i.result (map source_of c.loop-i.sources.items) c.place_at.result _ c.loop-i-test.true c.index-values-i.is c.place_at.ensures c.in_err-one.ensures c.loop-i.invariant)
