use Rattle.std.proofs.Common.{◌≡◌, ◌≤◌, ◌++◌, length, take}
use Rattle.df_nemit.specs.Code as pure
use Rattle.df_nemit.proofs.updates.sets.Given as goal

-- with those that are left, all are popped
abbrev pub invariant-loop-left : goal.invariant-loop-left
invariant-loop-left l = record {
  within : l.left ≤ length l.targets.items;
  longer : length l.fn.code.items ≤ length l.code.items;
  rest : l.code.items ++ pure.sets_code l.scratch (take l.left l.targets.items) ≡ l.fn.code.items ++ pure.sets_code l.scratch l.targets.items;
}

abbrev pub decreases-loop-left : goal.decreases-loop-left
decreases-loop-left l = l.left
