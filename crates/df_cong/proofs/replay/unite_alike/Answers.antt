use Rattle.std.proofs.Common.{sym, ◌∙◌, true≢false}
use Rattle.df_classes.specs.PartitionView.{state_of}
use Rattle.df_cong.proofs.Replaying.{can_unite_alike, alike_one}
use Rattle.df_cong.proofs.replay.unite_alike.Goals as goal

pub returns-then-not-are_alike : goal.returns-then-not-are_alike
returns-then-not-are_alike c = λ e. absurd (true≢false (sym e))

pub unite-requires : goal.unite-requires
unite-requires c = can_unite_alike c.args.nodes.now (state_of c.args.partition.now) c.args.pair c.requires (sym c.are_alike.ensures ∙ c.if-not-are_alike.false)

pub returns : goal.returns
returns c = λ e. alike_one c.args.nodes.now (state_of c.args.partition.now) (state_of c.unite.new.partition) c.args.pair c.requires (sym c.are_alike.ensures ∙ c.if-not-are_alike.false) c.in_ok-unite.ensures
