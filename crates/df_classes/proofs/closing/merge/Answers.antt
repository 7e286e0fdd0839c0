use Rattle.std.proofs.Common.{sym, subst, ◌∙◌}
use Rattle.df_rules.proofs.Results.{on_ok}
use Rattle.df_classes.specs.mirror.Closure.{CanJoin}
use Rattle.df_classes.specs.PartitionView.{state_of}
use Rattle.df_classes.proofs.Absorbing.{joins_after}
use Rattle.df_classes.proofs.Results.{on_ok_of}
use Rattle.df_classes.proofs.Retreating.{extends_then}
use Rattle.df_classes.proofs.closing.merge.Goals as goal

pub join-requires : goal.join-requires
join-requires c = subst (CanJoin c.args.pair) (sym c.add.ensures.state) c.requires

pub returns-in_err-push-clause-extends : goal.returns-in_err-push-clause-extends
returns-in_err-push-clause-extends c = c.add.ensures.extends

pub returns-clause-joins : goal.returns-clause-joins
returns-clause-joins c =
    on_ok c.join.result
    (joins_after c.args.users.now (state_of c.args.partition.now) (state_of c.add.new.self) (state_of c.join.new.partition) c.args.pair c.args.waiting.now.items c.push.new.self.items c.join.new.waiting.items c.add.ensures.state c.in_ok-push.ensures.items)
    c.join.ensures.joins

pub returns-clause-pairs : goal.returns-clause-pairs
returns-clause-pairs c = on_ok_of c.join.result (c.join.ensures.pairs ∙ c.in_ok-add.ensures.added)

pub returns-clause-extends : goal.returns-clause-extends
returns-clause-extends c = extends_then c.args.partition.now c.add.new.self c.join.new.partition c.add.ensures.extends c.join.ensures.extends
