use Rattle.std.proofs.Common.{map, refl}
use Rattle.std.proofs.lemmas.List.{map-append}
use Rattle.df_lang.specs.StmtView.{conversion_of}
use Rattle.df_ntstmt.specs.mirror.Sides.{conversions}
use Rattle.std.proofs.lemmas.Option.{slice_get_read}
use Rattle.df_ntstmt.proofs.Listed.{conversion_goes, conversions_past, conversions_done}
use Rattle.df_ntstmt.proofs.sources.conversions.Goals as goal

pub loop-i-preserved : goal.loop-i-preserved
loop-i-preserved c =
    rw (c.in_ok-push.ensures.items, map-append conversion_of)
    (conversion_goes c.args.places.now c.args.results.now c.loop-i.i _ c.in-Some.place.now (map conversion_of c.loop-i.all.items) _ _ c.loop-i-test.true (slice_get_read c.args.places.now _ c.loop-i.i c.in-Some.place.now refl c.in-Some.ensures.lookup.3.0 (c.in-Some.ensures.lookup.3.1 c.in-Some.place.now)) c.conversion.ensures c.loop-i.invariant)

pub returns : goal.returns
returns c = conversions_done c.args.places.now c.args.results.now c.loop-i.i (map conversion_of c.loop-i.all.items) _ c.loop-i-test.false c.loop-i.invariant
