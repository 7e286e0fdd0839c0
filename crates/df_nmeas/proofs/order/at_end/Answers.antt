use Rattle.df_nmeas.proofs.Words.{◌<◌, ◌≤◌, length, sym, ltb-true, ltb-false, stands_as}
use Rattle.df_nmeas.proofs.Sides.{top_behind}
use Rattle.df_nmeas.proofs.order.at_end.Goals as goal

pub returns-in-None-get-clause-stands : goal.returns-in-None-get-clause-stands
returns-in-None-get-clause-stands c =
    let lt : c.args.from < length c.args.now.now = ltb-true c.args.from (length c.args.now.now) (sym c.in-Some.ensures.lookup.0) in
    let le : length c.args.before.now ≤ c.args.from = ltb-false c.args.from (length c.args.before.now) (sym c.in-None-get.ensures.lookup.0) in
    stands_as c.truth-in-None-get.result c.truth-in-None-get.new.nodes _ _ (sym (top_behind c.args.nodes.now c.args.now.now c.args.before.now c.args.from lt le)) c.truth-in-None-get.ensures.stands
