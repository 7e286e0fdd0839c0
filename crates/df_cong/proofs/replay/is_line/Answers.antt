use Rattle.std.proofs.Common.{sym, ◌∙◌, true≢false}
use Rattle.df_rules.proofs.Results.{if_ok}
use Rattle.df_classes.specs.PartitionView.{state_of}
use Rattle.df_classes.proofs.Holds.{ready_alone}
use Rattle.df_cong.proofs.Replaying.{line_replayed}
use Rattle.df_cong.proofs.replay.is_line.Goals as goal

pub unite_all_sides-requires : goal.unite_all_sides-requires
unite_all_sides-requires c = (ready_alone c.args.nodes.now (state_of c.in_ok-partition.partition) c.len.result c.len.ensures.len c.in_ok-partition.ensures.state).partition

pub unite_all_alike-requires : goal.unite_all_alike-requires
unite_all_alike-requires c = c.in_ok-unite_all_sides.ensures.partition

pub returns-then-not-branch : goal.returns-then-not-branch
returns-then-not-branch c = λ e. absurd (true≢false (sym e))

pub returns : goal.returns
returns c =
    let start = state_of c.in_ok-partition.partition in
    let mid = state_of c.unite_all_sides.new.partition in
    let new = state_of c.unite_all_alike.new.partition in
    if_ok c.do_clash.result _ _ c.do_clash.ensures
    (λ yes is e.
    line_replayed c.args.nodes.now c.args.literals.now c.args.pairs.now c.args.numbers.now c.len.result start mid new c.in_ok-partition.ensures.state c.in_ok-unite_all_sides.ensures (c.in_ok-unite_all_alike.ensures c.if-not-branch.false) c.requires (sym is ∙ e))
