use Rattle.std.proofs.Common.{◌≡◌, ◌≤◌, drop}
use Rattle.df_nemit.specs.Code as pure
use Rattle.df_nemit.proofs.emission.highest.Given as goal

abbrev pub invariant-loop-instruction : goal.invariant-loop-instruction
invariant-loop-instruction l = record {
  least : l.fn.local ≤ l.most;
  rest : pure.highest l.most (drop l.instruction-index l.instruction-items) ≡ pure.highest l.fn.local l.fn.code.items;
}
