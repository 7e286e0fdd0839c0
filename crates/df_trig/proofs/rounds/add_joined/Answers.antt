use Rattle.std.proofs.Common.{ℕ, List, sym, subst}
use Rattle.df_form.specs.SequentView.{sequent_of}
use Rattle.df_clause.specs.GroundSet.{GroundSet, with_lines}
use Rattle.df_clause.specs.GroundView.{set_of}
use Rattle.df_trig.specs.Matches.{pair_lines}
use Rattle.df_trig.specs.Rounds.{Reaches}
use Rattle.df_trig.proofs.Indexed.{no_pairs, pairs_of_list}
use Rattle.df_trig.proofs.rounds.add_joined.Goals as goal

pub returns-in-Some : goal.returns-in-Some
returns-in-Some g c =
    let s = sequent_of c.args.sequent.now in
    let p = c.args.pattern.now in
    let old = set_of c.args.ground.now in
    let new = set_of c.add_pairs.new.ground in
    let all = pairs_of_list s p old c.args.lists.now c.args.first (record { sorted = c.len-nodes.ensures.table.sorted }) c.requires.index c.requires.first c.requires.op c.requires.two c.in-Some.last (sym c.in-Some.ensures) in
    let listed = subst (λ (others : List ℕ). Reaches old (with_lines s old (pair_lines p c.args.first others)) new c.add_pairs.result) c.list.ensures c.add_pairs.ensures in
    subst (λ (whole : GroundSet). Reaches old whole new c.add_pairs.result) (sym all) listed

pub returns-in-None : goal.returns-in-None
returns-in-None g c =
    let s = sequent_of c.args.sequent.now in
    let none = no_pairs s c.args.pattern.now (set_of c.args.ground.now) c.args.lists.now c.args.first (record { sorted = c.len-nodes.ensures.table.sorted }) c.requires.index c.requires.first c.requires.op c.requires.two (sym c.in-None.ensures) in
    (sym none, c.requires.few)
