use Rattle.std.proofs.Common.{◌≡◌, pos, get_or, true, refl, ap, of_z, rules}
use Rattle.std.specs.Int.{w128}
use Rattle.df_row.specs.Row.{fits}
use Rattle.df_row.proofs.Rows.{fits_from}
use Rattle.df_level.proofs.Multiples.{narrow_next, narrow_ends, order_next}
use Rattle.df_level.proofs.entries.are_in_order.Goals as goal

pub loop-entry-preserved : goal.loop-entry-preserved
loop-entry-preserved c =
    let all = c.args.entries.now in
    let i = c.loop-entry.entry-index in
    let e = get_or all i (0, pos 0) in
    let fitting : fits e.1 ≡ true = search (rules, fits_from) in
    let order = order_next c.loop-entry.low i all c.loop-entry.invariant.0 c.loop-entry-test.true c.if-node-low.false (λ is. c.if-entry-eq0.false (ap (of_z w128) is)) in
    (order, narrow_next i e.1 all c.loop-entry.invariant.1 c.loop-entry-test.true refl fitting)

pub returns-clause-narrow : goal.returns-clause-narrow
returns-clause-narrow c = λ is. narrow_ends c.loop-entry.entry-index c.args.entries.now c.loop-entry.invariant.1 c.loop-entry-test.false
