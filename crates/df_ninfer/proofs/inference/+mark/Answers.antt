use Rattle.std.proofs.Common.{rules, ◌≡◌, map}
use Rattle.df_ntree.specs.declared.expr.Expr.{the_lemmas}
use Rattle.df_ntree.specs.Expr.{Operations, Call, expr_of, operation_of, members_of, arguments_of}
use Rattle.df_ntyping.specs.LocalTypes.{names_in, names_in_members, names_in_arguments}
use Rattle.df_ninfer.specs.Marks.{marked}
use Rattle.df_ninfer.proofs.MarkedRuns.{operations_go, arguments_go, run_marked, call_marked}
use Rattle.df_ninfer.proofs.inference.+mark.Goals as goal

pub mark-returns-in-Call : goal.mark-returns-in-Call
mark-returns-in-Call t c =
    let callee = expr_of c.in-Call.callee.value in
    let all = arguments_of (map expr_of c.in-Call.arguments.items) in
    let whole : expr_of c.args.e.now ≡ Call callee all = search (rules, the_lemmas) in
    let start : c.mark-in-Call.new.env ≡ marked c.args.env.now (names_in callee) = search rules in
    let made : c.mark_arguments.new.env ≡ marked c.mark-in-Call.new.env (names_in_arguments all) = search rules in
    call_marked c.args.env.now c.mark-in-Call.new.env c.mark_arguments.new.env (expr_of c.args.e.now) callee all whole start made

pub mark-returns-in-Operations : goal.mark-returns-in-Operations
mark-returns-in-Operations t c =
    let first = expr_of c.in-Operations.first.value in
    let rest = members_of (map operation_of c.in-Operations.rest.items) in
    let whole : expr_of c.args.e.now ≡ Operations first rest = search (rules, the_lemmas) in
    let start : c.mark-in-Operations.new.env ≡ marked c.args.env.now (names_in first) = search rules in
    let made : c.mark_operations.new.env ≡ marked c.mark-in-Operations.new.env (names_in_members rest) = search rules in
    run_marked c.args.env.now c.mark-in-Operations.new.env c.mark_operations.new.env (expr_of c.args.e.now) first rest whole start made

pub mark_arguments-loop-e-preserved : goal.mark_arguments-loop-e-preserved
mark_arguments-loop-e-preserved t c =
    arguments_go c.deref-e-items.result.now c.loop-e.e-index c.e-item.result c.loop-e.env c.mark.new.env (marked c.args.env.now (names_in_arguments (arguments_of (map expr_of c.deref-e-items.result.now)))) c.loop-e-test.true c.e-item.is c.mark.ensures c.loop-e.invariant

pub mark_operations-loop-operation-preserved : goal.mark_operations-loop-operation-preserved
mark_operations-loop-operation-preserved t c =
    let made : c.mark.new.env ≡ marked c.loop-operation.env (names_in (operation_of c.operation-item.result).operand) = search (rules, the_lemmas) in
    operations_go c.deref-operation-items.result.now c.loop-operation.operation-index c.operation-item.result c.loop-operation.env c.mark.new.env (marked c.args.env.now (names_in_members (members_of (map operation_of c.deref-operation-items.result.now)))) c.loop-operation-test.true
    c.operation-item.is made c.loop-operation.invariant
