use Rattle.std.proofs.Common.{List, map, flat_map, refl, arith}
use Rattle.df_types.specs.declared.stmt.Source.{Source}
use Rattle.df_types.specs.StmtView.{source_of}
use Rattle.df_types.specs.Gathering.{of_source}
use Rattle.df_groups2.specs.Parts.{calls_in}
use Rattle.std.proofs.lemmas.Grind.{flat_map-append}
use Rattle.df_types.specs.Gathering.{gather}
use Rattle.df_types.specs.Calls.{called}
use Rattle.df_lemmas.proofs.Loops.{run_more, run_done}
use Rattle.df_groups2.proofs.statements.of_sources.Goals as goal

pub loop-source-preserved : goal.loop-source-preserved
loop-source-preserved c =
    run_more (λ (l : List Source). calls_in (flat_map of_source (map source_of l))) (λ (source : Source). calls_in (of_source (source_of source))) (λ x xs. flat_map-append (gather called) (of_source (source_of x)) (flat_map of_source (map source_of xs))) c.args.sources.now c.loop-source.source-index
    c.source-item.result c.loop-source.callees.items c.of_source.new.callees.items _ c.loop-source-test.true c.source-item.is c.in_ok-of_source.ensures c.loop-source.invariant

pub returns : goal.returns
returns c =
    run_done (λ (l : List Source). calls_in (flat_map of_source (map source_of l))) refl c.args.sources.now c.loop-source.source-index c.loop-source.callees.items _ (omega arith) c.loop-source.invariant
