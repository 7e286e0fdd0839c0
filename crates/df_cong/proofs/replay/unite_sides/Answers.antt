use Rattle.std.proofs.Common.{length, sym, subst}
use Rattle.std.proofs.lemmas.Bool.{not-true, not-false}
use Rattle.df_rules.proofs.Results.{on_ok}
use Rattle.df_classes.specs.PartitionView.{state_of}
use Rattle.df_cong.specs.mirror.Replay.{Unites}
use Rattle.df_classes.proofs.Holds.{negative_none, positive_puts}
use Rattle.df_cong.proofs.Replaying.{can_unite, unites_nodes, unites_none}
use Rattle.df_cong.proofs.replay.unite_sides.Goals as goal

pub returns-then-not-literal : goal.returns-then-not-literal
returns-then-not-literal c =
    let s = state_of c.args.partition.now in
    subst (Unites (length c.args.nodes.now) s s) (sym (negative_none c.args.nodes.now c.args.literal (not-true c.args.literal.positive c.if-not-literal.true))) (unites_none (length c.args.nodes.now) s c.requires)

pub unite-requires : goal.unite-requires
unite-requires c = can_unite c.args.nodes.now (state_of c.args.partition.now) c.in-Some.pair c.requires c.in-Some.ensures.left c.in-Some.ensures.right

pub returns-in-Some : goal.returns-in-Some
returns-in-Some c =
    let s = state_of c.args.partition.now in
    let new = state_of c.unite.new.partition in
    on_ok c.unite.result
    (λ h. subst (Unites (length c.args.nodes.now) s new) (sym (positive_puts c.args.nodes.now c.args.literal _ (not-false c.args.literal.positive c.if-not-literal.false) c.in-Some.ensures.sides)) (unites_nodes c.args.nodes.now s new _ c.requires h))
    c.unite.ensures

pub returns-in-None : goal.returns-in-None
returns-in-None c =
    let s = state_of c.args.partition.now in
    subst (Unites (length c.args.nodes.now) s s) (sym (positive_puts c.args.nodes.now c.args.literal _ (not-false c.args.literal.positive c.if-not-literal.false) c.in-None.ensures.sides))
    (unites_none (length c.args.nodes.now) s c.requires)
