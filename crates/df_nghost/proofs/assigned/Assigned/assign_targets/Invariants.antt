use Rattle.std.proofs.Common.{◌≡◌, drop, map}
use Rattle.df_lang.specs.StmtView.{target_of}
use Rattle.df_lang.specs.Assignment.{assign}
use Rattle.df_nghost.specs.mirror.Known.{assigned_of, Extends}
use Rattle.df_nghost.proofs.assigned.Assigned.assign_targets.Given as goal

abbrev pub invariant-loop-target : goal.invariant-loop-target
invariant-loop-target l = record {
  assigned : assign (assigned_of l.self) (map target_of (drop l.target-index l.target-items)) ≡ assign (assigned_of l.fn.self) (map target_of l.target-items);
  extends : Extends l.fn.self l.self;
}
