use Rattle.std.proofs.Common.{◌≡◌, ◌++◌, map, take}
use Rattle.df_groups2.specs.declared.finishing.Step.TheVariants.{Enter}
use Rattle.df_groups2.proofs.finishing.Search.follow.Given as goal

abbrev pub invariant-loop-target : goal.invariant-loop-target
invariant-loop-target l = record {
  entered : l.self.entered ≡ l.fn.self.entered;
  finished : l.self.finished ≡ l.fn.self.finished;
  steps : l.self.steps.items ≡ l.fn.self.steps.items ++ map Enter (take l.target-index l.targets);
}
