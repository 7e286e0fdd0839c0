use Rattle.std.proofs.Common.{sym, subst, ap, ◌∙◌, arith}
use Rattle.df_classes.specs.declared.partition.Partition.{Partition}
use Rattle.df_classes.specs.PartitionView.{state_of, Extends}
use Rattle.df_classes.specs.mirror.Steps.{IsReady}
use Rattle.df_classes.proofs.Results.{on_err}
use Rattle.df_classes.proofs.Holds.{ready_of, hold_on, hold_back, cut_last, same_holding}
use Rattle.df_classes.proofs.Earlier.{hold_returns}
use Rattle.df_classes.proofs.holding.Holding.hold.Goals as goal

pub put-requires-clause-ready : goal.put-requires-clause-ready
put-requires-clause-ready c =
    let old = c.args.self.now in
    subst (IsReady c.args.nodes.now) (sym (ap state_of c.push.ensures.partition)) (ready_of c.args.nodes.now old.held.items old.levels.items old.partition c.requires.holding)

pub returns-in_err-push-clause-holding : goal.returns-in_err-push-clause-holding
returns-in_err-push-clause-holding c =
    same_holding c.args.nodes.now c.args.self.now c.push.new.self c.requires.holding c.in_err-push.ensures.held c.in_err-push.ensures.levels c.push.ensures.partition

pub returns-in-Ok-clause-holding : goal.returns-in-Ok-clause-holding
returns-in-Ok-clause-holding c =
    hold_on c.args.nodes.now c.args.self.now c.push.new.self c.put.new.self c.args.literal c.requires.holding c.in_ok-push.ensures.pushes c.push.ensures.partition c.put.ensures.extends c.put.ensures.held c.put.ensures.levels c.in-Ok.ensures.equates

pub returns-in-Ok-clause-holds : goal.returns-in-Ok-clause-holds
returns-in-Ok-clause-holds c = c.put.ensures.held ∙ c.in_ok-push.ensures.pushes.held

pub returns-in-Err-clause-holding : goal.returns-in-Err-clause-holding
returns-in-Err-clause-holding c =
    hold_back c.args.nodes.now c.args.self.now c.push.new.self c.put.new.self c.cut.new.self c.args.literal c.requires.holding c.in_ok-push.ensures.pushes c.push.ensures.partition c.put.ensures.extends c.put.ensures.held c.put.ensures.levels c.len-before.result
    (omega (arith, c.len-before.ensures, c.args.self.now.held.ok.0)) c.cut.ensures

pub returns-in-Err-clause-err : goal.returns-in-Err-clause-err
returns-in-Err-clause-err c = cut_last c.put.new.self c.cut.new.self c.args.self.now.held.items c.args.literal c.len-before.result (omega (arith, c.len-before.ensures, c.args.self.now.held.ok.0)) (c.put.ensures.held ∙ c.in_ok-push.ensures.pushes.held) c.cut.ensures

pub returns-in_err-push-clause-returns : goal.returns-in_err-push-clause-returns
returns-in_err-push-clause-returns c = on_err c.from_residual.result (record {
  held = c.in_err-push.ensures.held;
  levels = c.in_err-push.ensures.levels;
  trail = ap (λ (p : Partition). p.trail.items) c.push.ensures.partition;
  state = ap state_of c.push.ensures.partition;
})

pub returns-in-Ok-clause-grows : goal.returns-in-Ok-clause-grows
returns-in-Ok-clause-grows c = record {
  held = c.put.ensures.held ∙ c.in_ok-push.ensures.pushes.held;
  levels = c.put.ensures.levels ∙ c.in_ok-push.ensures.pushes.levels;
  extends = subst (λ (p : Partition). Extends p c.put.new.self.partition) c.push.ensures.partition c.put.ensures.extends;
}

pub returns-in-Err-clause-returns : goal.returns-in-Err-clause-returns
returns-in-Err-clause-returns c =
    hold_returns c.args.self.now c.push.new.self c.put.new.self c.cut.new.self c.args.literal c.in_ok-push.ensures.pushes c.push.ensures.partition c.put.ensures.extends c.put.ensures.held c.put.ensures.levels c.requires.holding.levels_are.as_many c.len-before.result
    (omega (arith, c.len-before.ensures, c.args.self.now.held.ok.0)) c.cut.ensures
