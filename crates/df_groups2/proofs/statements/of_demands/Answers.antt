use Rattle.std.proofs.Common.{List, map, refl, arith}
use Rattle.df_types.specs.declared.stmt.Demand.{Demand}
use Rattle.df_types.specs.StmtView.{demand_of}
use Rattle.df_types.specs.Gathering.{of_demands}
use Rattle.df_groups2.specs.Parts.{calls_in}
use Rattle.df_types.specs.Gathering.{gather}
use Rattle.df_types.specs.Calls.{called}
use Rattle.df_lemmas.proofs.Loops.{run_more, run_done}
use Rattle.df_groups2.proofs.statements.of_demands.Goals as goal

pub loop-demand-preserved : goal.loop-demand-preserved
loop-demand-preserved c =
    run_more (λ (l : List Demand). calls_in (of_demands (map demand_of l))) (λ (demand : Demand). gather called (demand_of demand).condition) (λ x xs. refl) c.args.demands.now c.loop-demand.demand-index
    c.demand-item.result c.loop-demand.callees.items c.of_expr.new.callees.items _ c.loop-demand-test.true c.demand-item.is c.in_ok-of_expr.ensures c.loop-demand.invariant

pub returns : goal.returns
returns c =
    run_done (λ (l : List Demand). calls_in (of_demands (map demand_of l))) refl c.args.demands.now c.loop-demand.demand-index c.loop-demand.callees.items _ (omega arith) c.loop-demand.invariant
