use Rattle.std.proofs.Common.{ap, take, ◌∙◌}
use Rattle.df_classes.proofs.holding.Holding.cut.Goals as goal

pub returns : goal.returns
returns c = record {
  held = c.truncate.ensures.items ∙ ap (λ v. take c.args.held v.items) c.retreat.ensures.held;
  levels = c.truncate-2.ensures.items ∙ ap (λ v. take c.args.held v.items) c.retreat.ensures.levels;
  retreats = c.retreat.ensures.retreats;
}
