use Rattle.std.proofs.Common.{◌≡◌, take}
use Rattle.df_trail.specs.Trail.{literals_of}
use Rattle.df_trail.proofs.trail.Trail.branch.Given as goal

abbrev pub invariant-loop-decision : goal.invariant-loop-decision
invariant-loop-decision l = l.branch.items ≡ literals_of (take l.decision-index l.self.decisions.items)
