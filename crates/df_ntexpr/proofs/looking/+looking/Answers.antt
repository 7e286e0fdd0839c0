use Rattle.std.proofs.Common.{map}
use Rattle.std.proofs.lemmas.List.{map-append}
use Rattle.std.proofs.lemmas.Result.{err_from_is_err_and}
use Rattle.df_ntexpr.specs.Parts.{operand_of, row_of}
use Rattle.df_ntexpr.proofs.RowsSoFar.{goes_on, stops}
use Rattle.df_ntexpr.proofs.ArgumentsSoFar.{arguments_go, arguments_stop, arguments_end}
use Rattle.df_ntexpr.proofs.looking.+looking.Goals as goal

pub rows-loop-i-preserved : goal.rows-loop-i-preserved
rows-loop-i-preserved t c =
    rw (c.in_ok-push.ensures.items, map-append row_of, c.left_behind-left.ensures, c.type_of.ensures)
    (goes_on c.args.env.now c.args.group c.args.rest.now c.loop-i.i c.index-rest-i.result c.loop-i.left (map row_of c.loop-i.rows.items) (operand_of c.in_ok-typed.typed) (row_of c.in_ok-row.row) c.is_end.result _ c.loop-i-test.true c.index-rest-i.is c.in_ok-typed.ensures c.is_end.ensures c.in_ok-row.ensures c.loop-i.invariant)

pub rows-returns-in_err-row : goal.rows-returns-in_err-row
rows-returns-in_err-row t c =
    let p = err_from_is_err_and c.from_residual-in_err-row.result c.from_residual-in_err-row.ensures.1 in
    rw (p.1, p.2)
    (stops c.args.env.now c.args.group c.args.rest.now c.loop-i.i c.index-rest-i.result c.loop-i.left (map row_of c.loop-i.rows.items) (operand_of c.in_ok-typed.typed) c.in_err-row.field-0.0 c.is_end.result _ c.loop-i-test.true c.index-rest-i.is c.in_ok-typed.ensures c.is_end.ensures c.in_err-row.ensures c.loop-i.invariant)

pub arguments-loop-i-preserved : goal.arguments-loop-i-preserved
arguments-loop-i-preserved t c =
    arguments_go c.args.env.now c.args.places.now c.args.all.now c.loop-i.i c.index-all-i.result c.loop-i-test.true c.index-all-i.is c.place_at-place.result c.place_at-place.ensures _ c.in_ok-argument.ensures c.loop-i.invariant

pub arguments-returns-in_err-argument : goal.arguments-returns-in_err-argument
arguments-returns-in_err-argument t c =
    let p = err_from_is_err_and c.from_residual.result c.from_residual.ensures.1 in
    rw (p.1, p.2)
    (arguments_stop c.args.env.now c.args.places.now c.args.all.now c.loop-i.i c.index-all-i.result c.loop-i-test.true c.index-all-i.is c.place_at-place.result c.place_at-place.ensures (λ (done : Unit {0}). done) (λ (done : Unit {0}). done) c.in_err-argument.field-0.0 _ c.in_err-argument.ensures c.loop-i.invariant)

pub arguments-returns : goal.arguments-returns
arguments-returns t c = arguments_end c.args.env.now c.args.places.now c.args.all.now c.loop-i.i _ c.loop-i-test.false c.loop-i.invariant
