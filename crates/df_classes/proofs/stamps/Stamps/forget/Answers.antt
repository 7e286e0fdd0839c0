use Rattle.df_classes.proofs.Stamping.{stamps_same, stamps_then}
use Rattle.df_classes.proofs.stamps.Stamps.forget.Goals as goal

pub loop-mark-init : goal.loop-mark-init
loop-mark-init c = stamps_same c.args.held c.args.self.now.since.items

pub returns-then-not-forget_last : goal.returns-then-not-forget_last
returns-then-not-forget_last c = stamps_then c.args.held c.args.self.now.since.items c.loop-mark.self.since.items c.forget_last.new.self.since.items c.loop-mark.invariant c.forget_last.ensures

pub loop-mark-preserved : goal.loop-mark-preserved
loop-mark-preserved c = stamps_then c.args.held c.args.self.now.since.items c.loop-mark.self.since.items c.forget_last.new.self.since.items c.loop-mark.invariant c.forget_last.ensures
