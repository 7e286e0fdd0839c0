use Rattle.std.proofs.Common.{sym, ◌∙◌}
use Rattle.df_classes.proofs.Stamping.{stamps_same}
use Rattle.df_classes.proofs.stamps.Stamps.forget_last.Goals as goal

pub returns-in_default : goal.returns-in_default
returns-in_default c = stamps_same c.args.held c.args.self.now.since.items

pub returns-then-is_marked : goal.returns-then-is_marked
returns-then-is_marked c = stamps_same c.args.held c.args.self.now.since.items

pub clear-requires : goal.clear-requires
clear-requires c = sym c.is_marked.ensures ∙ c.if-is_marked.false
