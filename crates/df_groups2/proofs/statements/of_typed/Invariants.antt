use Rattle.std.proofs.Common.{◌≡◌, ◌++◌, drop, map}
use Rattle.df_types.specs.StmtView.{typed_of}
use Rattle.df_types.specs.Gathering.{of_typed}
use Rattle.df_groups2.specs.Parts.{calls_in}
use Rattle.df_groups2.proofs.statements.of_typed.Given as goal

-- the calls so far, in front of those of what is left, are those of all
abbrev pub invariant-loop-operand : goal.invariant-loop-operand
invariant-loop-operand l = l.callees.items ++ calls_in (of_typed (map typed_of (drop l.operand-index l.operands))) ≡ l.fn.callees.items ++ calls_in (of_typed (map typed_of l.operands))
