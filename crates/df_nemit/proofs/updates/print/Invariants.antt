use Rattle.std.proofs.Common.{◌≡◌, ◌≤◌, length, drop, map}
use Rattle.df_nplain.specs.StmtView.{operand_of}
use Rattle.df_nemit.specs.mirror.Emitting as mirror
use Rattle.df_nemit.proofs.updates.print.Given as goal

abbrev pub invariant-loop-one : goal.invariant-loop-one
invariant-loop-one l = record {
  longer : length l.fn.code.items ≤ length l.code.items;
  rest : mirror.emit_operands l.scratch l.code.items (map operand_of (drop l.one-index l.operands.items)) ≡ mirror.emit_operands l.scratch l.fn.code.items (map operand_of l.operands.items);
}
