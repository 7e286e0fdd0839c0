use Rattle.std.proofs.Common.{List, map, ap}
use Rattle.std.proofs.lemmas.List.{map-append}
use Rattle.std.proofs.lemmas.Result.{err_from_is_err_and}
use Rattle.df_lang.specs.Expr as pure
use Rattle.df_lang.specs.ExprView as typed
use Rattle.df_lang.specs.declared.expr.Expr.{Expr}
use Rattle.df_ntexpr.specs.Parts.{typed_of}
use Rattle.df_ntstmt.proofs.LoopedArguments.{arguments_begin, arguments_go, arguments_stop, arguments_end}
use Rattle.df_ntstmt.proofs.calls.arguments.Goals as goal

pub loop-i-init : goal.loop-i-init
loop-i-init c =
    arguments_begin c.args.env.now c.args.places.now c.args.all.now (map typed.expr_of c.new-arguments.result.items) (ap (λ (es : List Expr). map typed.expr_of es) c.new-arguments.ensures.items)

pub loop-i-preserved : goal.loop-i-preserved
loop-i-preserved c =
    let made = map typed.expr_of c.loop-i.arguments.items in
    rw (c.in_ok-push.ensures.items, map-append typed.expr_of)
    (arguments_go c.args.env.now c.args.places.now c.args.all.now c.loop-i.i c.index-all-i.result c.loop-i-test.true c.index-all-i.is c.place_at-place.result c.place_at-place.ensures made _ (typed_of c.in_ok-one.one) c.in_ok-one.ensures c.loop-i.invariant)

pub returns-in_err-one : goal.returns-in_err-one
returns-in_err-one c =
    let made = map typed.expr_of c.loop-i.arguments.items in
    let p = err_from_is_err_and c.from_residual.result c.from_residual.ensures.1 in
    rw (p.1, p.2)
    (arguments_stop c.args.env.now c.args.places.now c.args.all.now c.loop-i.i c.index-all-i.result c.loop-i-test.true c.index-all-i.is c.place_at-place.result c.place_at-place.ensures typed_of (λ (es : List pure.Expr). es) c.in_err-one.field-0.0 made _ c.in_err-one.ensures c.loop-i.invariant)

pub returns : goal.returns
returns c =
    arguments_end c.args.env.now c.args.places.now c.args.all.now c.loop-i.i (map typed.expr_of c.loop-i.arguments.items) _ c.loop-i-test.false c.loop-i.invariant
