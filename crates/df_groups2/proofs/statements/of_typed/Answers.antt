use Rattle.std.proofs.Common.{List, map, refl, arith}
use Rattle.df_types.specs.declared.stmt.Typed.{Typed}
use Rattle.df_types.specs.StmtView.{typed_of}
use Rattle.df_types.specs.Gathering.{of_typed}
use Rattle.df_groups2.specs.Parts.{calls_in}
use Rattle.df_types.specs.Gathering.{gather}
use Rattle.df_types.specs.Calls.{called}
use Rattle.df_lemmas.proofs.Loops.{run_more, run_done}
use Rattle.df_groups2.proofs.statements.of_typed.Goals as goal

pub loop-operand-preserved : goal.loop-operand-preserved
loop-operand-preserved c =
    run_more (λ (l : List Typed). calls_in (of_typed (map typed_of l))) (λ (operand : Typed). gather called (typed_of operand).value) (λ x xs. refl) c.args.operands.now c.loop-operand.operand-index
    c.operand-item.result c.loop-operand.callees.items c.of_expr.new.callees.items _ c.loop-operand-test.true c.operand-item.is c.in_ok-of_expr.ensures c.loop-operand.invariant

pub returns : goal.returns
returns c =
    run_done (λ (l : List Typed). calls_in (of_typed (map typed_of l))) refl c.args.operands.now c.loop-operand.operand-index c.loop-operand.callees.items _ (omega arith) c.loop-operand.invariant
