use Rattle.std.proofs.Common.{map}
use Rattle.std.proofs.lemmas.List.{map-append}
use Rattle.df_lang.specs.StmtView.{target_of}
use Rattle.df_ntstmt.specs.mirror.Sides.{target_from}
use Rattle.df_ntstmt.proofs.Listed.{copy_step}
use Rattle.df_ntstmt.proofs.places.targets.Goals as goal

pub loop-place-preserved : goal.loop-place-preserved
loop-place-preserved c =
    rw (c.in_ok-push.ensures.items, map-append target_of)
    (copy_step target_from c.args.places.now c.loop-place.place-index _ (map target_of c.loop-place.targets.items) (map target_from c.args.places.now) _ c.loop-place-test.true c.target.ensures c.loop-place.invariant)
