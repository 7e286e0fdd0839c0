use Rattle.std.proofs.Common.{◌≡◌, take}
use Rattle.df_classes.specs.HoldingView.{IsHolding}
use Rattle.df_cong.proofs.deciding.held.Given as goal

abbrev pub invariant-loop-literal : goal.invariant-loop-literal
invariant-loop-literal l = IsHolding l.nodes l.holding.held.items l.holding.levels.items l.holding.partition × (l.holding.held.items ≡ take l.literal-index l.literals)
