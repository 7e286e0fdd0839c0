use Rattle.std.proofs.Common.{sym, ◌∙◌, refl}
use Rattle.std.proofs.lemmas.Option.{slice_get_read}
use Rattle.df_ntstmt.proofs.Listed.{given_goes, given_done}
use Rattle.df_ntstmt.proofs.sources.are_given.Goals as goal

pub loop-i-preserved : goal.loop-i-preserved
loop-i-preserved c =
    given_goes c.args.places.now c.args.results.now c.loop-i.i _ c.in-Some.place.now _ c.loop-i-test.true (slice_get_read c.args.places.now _ c.loop-i.i c.in-Some.place.now refl c.in-Some.ensures.lookup.3.0 (c.in-Some.ensures.lookup.3.1 c.in-Some.place.now)) (sym c.is_given.ensures ∙ c.if-not-is_given.false) c.loop-i.invariant

pub returns : goal.returns
returns c = given_done c.args.places.now c.args.results.now c.loop-i.i _ c.loop-i-test.false c.loop-i.invariant
