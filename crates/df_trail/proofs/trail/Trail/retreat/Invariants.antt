use Rattle.std.proofs.Common.{◌≡◌, ◌≤◌, length}
use Rattle.df_logbuild.specs.Front.{IsFront}
use Rattle.df_trail.proofs.Retreated.{IsRetreating}
use Rattle.df_trail.proofs.Shorter.{IsShorter}
use Rattle.df_trail.proofs.trail.Trail.retreat.Given as goal

abbrev pub invariant-loop-decision : goal.invariant-loop-decision
invariant-loop-decision l = record {
  retreating : IsRetreating l.initial.derivation l.initial.self l.fn.first l.derivation l.self l.conflict;
  nodes : l.derivation.nodes ≡ l.initial.derivation.nodes;
  shorter : IsShorter l.initial.self l.self;
  longer : length l.initial.derivation.lines.items ≤ length l.derivation.lines.items;
  grows : IsFront l.initial.derivation.lines.items l.derivation.lines.items;
}

abbrev pub decreases-loop-decision : goal.decreases-loop-decision
decreases-loop-decision l = length l.self.decisions.items
