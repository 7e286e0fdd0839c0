use Rattle.std.proofs.Common.{List, ◌++◌, map, flat_map, refl, ap, ◌∙◌, arith}
use Rattle.std.proofs.lemmas.Grind.{flat_map-append}
use Rattle.df_types.specs.declared.stmt.Range.{Range}
use Rattle.df_types.specs.ExprView.{extent_of}
use Rattle.df_types.specs.StmtView.{range_of}
use Rattle.df_types.specs.Gathering.{gather, of_range}
use Rattle.df_types.specs.Calls.{called}
use Rattle.df_groups2.specs.Parts.{calls_in}
use Rattle.df_groups2.proofs.Gatherings.{extent_calls}
use Rattle.df_lemmas.proofs.Loops.{run_more, run_done}
use Rattle.df_groups2.proofs.statements.of_ranges.Goals as goal

pub loop-range-preserved : goal.loop-range-preserved
loop-range-preserved c =
    run_more (λ (l : List Range). calls_in (flat_map of_range (map range_of l))) (λ (range : Range). calls_in (of_range (range_of range))) (λ x xs. flat_map-append (gather called) (of_range (range_of x)) (flat_map of_range (map range_of xs))) c.args.ranges.now
    c.loop-range.range-index c.range-item.result c.loop-range.callees.items c.of_extent.new.callees.items _ c.loop-range-test.true c.range-item.is
    (c.in_ok-of_extent.ensures ∙ ap (λ ns. c.loop-range.callees.items ++ ns) (extent_calls (extent_of c.range-item.result.extent))) c.loop-range.invariant

pub returns : goal.returns
returns c =
    run_done (λ (l : List Range). calls_in (flat_map of_range (map range_of l))) refl c.args.ranges.now c.loop-range.range-index c.loop-range.callees.items _ (omega arith) c.loop-range.invariant
