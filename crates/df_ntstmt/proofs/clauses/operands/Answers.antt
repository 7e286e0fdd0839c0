use Rattle.std.proofs.Common.{map, List, refl}
use Rattle.std.proofs.lemmas.List.{map-append}
use Rattle.std.proofs.lemmas.Result.{err_from_is_err_and}
use Rattle.df_lang.specs.Stmt as pure
use Rattle.df_lang.specs.StmtView as view
use Rattle.df_ntree.specs.File.{operand_of}
use Rattle.df_ntstmt.specs.mirror.Clauses.{operand_in, operands_in}
use Rattle.df_ntstmt.proofs.Looping.{walk_goes, walk_stops}
use Rattle.df_ntstmt.proofs.clauses.operands.Goals as goal

pub loop-each-preserved : goal.loop-each-preserved
loop-each-preserved c =
    let env = c.args.env.now in
    rw (c.in_ok-push.ensures.items, map-append view.operand_of)
    (walk_goes operand_of (operands_in env) (operand_in env) (λ (x : pure.Operand). x) c.args.all.now c.loop-each.each-index c.each-item.result (map view.operand_of c.loop-each.operands.items) (view.operand_of c.in_ok-typed.typed) _ (λ x xs. refl) c.loop-each-test.true c.each-item.is c.in_ok-typed.ensures c.loop-each.invariant)

pub returns-in_err-typed : goal.returns-in_err-typed
returns-in_err-typed c =
    let env = c.args.env.now in
    let p = err_from_is_err_and c.from_residual.result c.from_residual.ensures.1 in
    rw (p.1, p.2)
    (walk_stops view.operand_of (λ (xs : List pure.Operand). xs) c.in_err-typed.field-0.0 operand_of (operands_in env) (operand_in env) (λ (x : pure.Operand). x) c.args.all.now c.loop-each.each-index c.each-item.result (map view.operand_of c.loop-each.operands.items) _ (λ x xs. refl) c.loop-each-test.true c.each-item.is c.in_err-typed.ensures c.loop-each.invariant)
