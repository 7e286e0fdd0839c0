use Rattle.std.proofs.Common.{◌≡◌, map, drop}
use Rattle.df_lang.specs.StmtView as view
use Rattle.df_ntree.specs.File.{operand_of}
use Rattle.df_ntstmt.specs.mirror.Steps.{in_front}
use Rattle.df_ntstmt.specs.mirror.Clauses.{operands_in}
use Rattle.df_ntstmt.proofs.clauses.operands.Given as goal

-- what is printed so far, in front of what is left, is all
abbrev pub invariant-loop-each : goal.invariant-loop-each
invariant-loop-each l =
    in_front (map view.operand_of l.operands.items) (operands_in l.env (map operand_of (drop l.each-index l.all))) ≡ operands_in l.env (map operand_of l.all)
