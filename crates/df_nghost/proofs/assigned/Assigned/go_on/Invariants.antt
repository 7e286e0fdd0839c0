use Rattle.std.proofs.Common.{◌≡◌, drop}
use Rattle.df_nghost.specs.mirror.Known.{assigned_of, joined_of, Extends}
use Rattle.df_nghost.proofs.Points.{marks}
use Rattle.df_nghost.proofs.assigned.Assigned.go_on.Given as goal

abbrev pub invariant-loop-local : goal.invariant-loop-local
invariant-loop-local l = record {
  assigned : marks (assigned_of l.self) (drop l.local-index l.local-items) ≡ joined_of l.fn.self l.join;
  extends : Extends l.fn.self l.self;
}
