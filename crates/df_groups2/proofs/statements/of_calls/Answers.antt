use Rattle.std.proofs.Common.{List, map, flat_map, refl, arith}
use Rattle.df_types.specs.declared.stmt.Source.{Source}
use Rattle.df_types.specs.StmtView.{source_of}
use Rattle.df_types.specs.Calls.{called_by_source}
use Rattle.df_lemmas.proofs.Loops.{run_more, run_done}
use Rattle.df_groups2.proofs.statements.of_calls.Goals as goal

pub loop-source-preserved : goal.loop-source-preserved
loop-source-preserved c =
    run_more (λ (l : List Source). flat_map called_by_source (map source_of l)) (λ (source : Source). called_by_source (source_of source)) (λ x xs. refl) c.args.sources.now c.loop-source.source-index
    c.source-item.result c.loop-source.callees.items c.of_call.new.callees.items _ c.loop-source-test.true c.source-item.is c.in_ok-of_call.ensures c.loop-source.invariant

pub returns : goal.returns
returns c =
    run_done (λ (l : List Source). flat_map called_by_source (map source_of l)) refl c.args.sources.now c.loop-source.source-index c.loop-source.callees.items _ (omega arith) c.loop-source.invariant
