use Rattle.std.proofs.Common.{sym, ◌∙◌}
use Rattle.df_rules.proofs.Results.{on_ok}
use Rattle.df_classes.specs.PartitionView.{state_of}
use Rattle.df_cong.proofs.Replaying.{unites_already, can_join_united, unites_joined}
use Rattle.df_cong.proofs.replay.unite.Goals as goal

pub returns-then-left-right : goal.returns-then-left-right
returns-then-left-right c = unites_already (state_of c.args.partition.now) c.args.pair c.requires

pub join-requires : goal.join-requires
join-requires c = can_join_united (state_of c.args.partition.now) c.args.pair c.requires (λ e. c.if-left-right.false (c.label-left.ensures ∙ e ∙ sym c.label-right.ensures))

pub returns : goal.returns
returns c = on_ok c.join.result (unites_joined _ (state_of c.args.partition.now) (state_of c.join.new.partition) c.args.pair _ _) c.join.ensures.joins
