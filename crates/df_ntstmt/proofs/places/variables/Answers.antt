use Rattle.std.proofs.Common.{map}
use Rattle.std.proofs.lemmas.List.{map-append}
use Rattle.df_lang.specs.StmtView.{variable_of}
use Rattle.df_ntstmt.specs.mirror.Sides.{variable_from}
use Rattle.df_ntstmt.proofs.Listed.{copy_step}
use Rattle.df_ntstmt.proofs.places.variables.Goals as goal

pub loop-place-preserved : goal.loop-place-preserved
loop-place-preserved c =
    rw (c.in_ok-push.ensures.items, map-append variable_of)
    (copy_step variable_from c.args.places.now c.loop-place.place-index _ (map variable_of c.loop-place.variables.items) (map variable_from c.args.places.now) _ c.loop-place-test.true c.variable.ensures c.loop-place.invariant)
