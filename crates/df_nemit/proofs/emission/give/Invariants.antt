use Rattle.std.proofs.Common.{◌≡◌, ◌+◌, ◌-◌, ◌++◌}
use Rattle.df_nemit.specs.Code.{gets}
use Rattle.df_nemit.proofs.emission.give.Given as goal

abbrev pub invariant-loop-local : goal.invariant-loop-local
invariant-loop-local l = l.code.items ++ gets l.local (l.first + l.count - l.local) ≡ l.fn.code.items ++ gets l.first l.count
