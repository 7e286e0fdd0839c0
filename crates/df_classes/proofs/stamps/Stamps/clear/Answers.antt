use Rattle.std.proofs.Common.{arith}
use Rattle.df_classes.proofs.Stamping.{stamps_same, cleared_keeps}
use Rattle.df_classes.proofs.stamps.Stamps.clear.Goals as goal

pub returns-then-label-len : goal.returns-then-label-len
returns-then-label-len c = cleared_keeps c.args.self.now.since.items c.args.label c.args.held (omega (arith, c.if-label-len.true, c.len.ensures, c.args.self.now.since.ok.0)) c.requires

pub returns-else-label-len : goal.returns-else-label-len
returns-else-label-len c = stamps_same c.args.held c.args.self.now.since.items
