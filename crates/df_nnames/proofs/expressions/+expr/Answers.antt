use Rattle.std.proofs.Common.{List, map, refl}
use Rattle.std.proofs.lemmas.Result.{err_from_is_err_and}
use Rattle.df_ntree.specs.declared.expr.Expr.{Expr}
use Rattle.df_ntree.specs.Expr.{expr_of, arguments_of}
use Rattle.df_nnames.specs.Scope.{Scope}
use Rattle.df_nnames.specs.Faults.{expr_faults, argument_faults}
use Rattle.df_nnames.specs.Meanings.{meanings_of}
use Rattle.df_nnames.proofs.Telling.{goes_on, stops_at}
use Rattle.df_nnames.proofs.expressions.+expr.Goals as goal

pub arguments-returns-in_err-expr : goal.arguments-returns-in_err-expr
arguments-returns-in_err-expr t c =
    let g = meanings_of c.args.globals.now in
    let p = err_from_is_err_and c.from_residual.result c.from_residual.ensures.1 in
    rw (p.1, p.2, ← c.deref-argument-items.ensures.value) (stops_at (λ (s : Scope) (l : List Expr). argument_faults g s (arguments_of (map expr_of l))) (λ s x. expr_faults g s (expr_of x)) (λ s x. s) (λ s x xs. refl) (λ s. refl)
    c.deref-argument-items.result.now _ c.in_err-expr.field-0.0 c.loop-argument.argument-index c.args.scope.now c.argument-item.result c.loop-argument-test.true c.argument-item.is c.in_err-expr.ensures c.loop-argument.invariant)

pub arguments-loop-argument-preserved : goal.arguments-loop-argument-preserved
arguments-loop-argument-preserved t c =
    let g = meanings_of c.args.globals.now in
    goes_on (λ (s : Scope) (l : List Expr). argument_faults g s (arguments_of (map expr_of l))) (λ s x. expr_faults g s (expr_of x)) (λ s x. s) (λ s x xs. refl) (λ s. refl)
    c.deref-argument-items.result.now _ c.loop-argument.argument-index c.args.scope.now c.args.scope.now c.argument-item.result c.loop-argument-test.true c.argument-item.is c.in_ok-expr.ensures refl c.loop-argument.invariant
