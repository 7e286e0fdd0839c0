use Rattle.std.proofs.Common.{◌≡◌, drop}
use Rattle.df_nghost.specs.mirror.Listed.{cleared}
use Rattle.df_nghost.proofs.values.Values.clear.Given as goal

abbrev pub invariant-loop-local : goal.invariant-loop-local
invariant-loop-local l = cleared l.self.listed.items (drop l.local-index l.locals) ≡ cleared l.fn.self.listed.items l.locals
