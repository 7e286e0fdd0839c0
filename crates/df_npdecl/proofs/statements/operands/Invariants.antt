use Rattle.std.proofs.Common.{◌≡◌, length, map}
use Rattle.df_ntree.specs.File.{operand_of}
use Rattle.df_ntree.specs.mirror.Reading.{all_of, next_by, one_or_more}
use Rattle.df_ntree.specs.mirror.FileReading.{operand_at}
use Rattle.df_ntree.proofs.Repeat.{with_front}
use Rattle.df_npexpr.specs.Rest.{rest_of}
use Rattle.df_npdecl.proofs.statements.operands.Given as goal

abbrev pub invariant-loop-operands : goal.invariant-loop-operands
invariant-loop-operands l = with_front (map operand_of l.operands.items) (all_of (next_by (operand_at l.fn.room)) (rest_of l.cursor)) ≡ one_or_more (operand_at l.fn.room) (rest_of l.fn.cursor)

abbrev pub decreases-loop-operands : goal.decreases-loop-operands
decreases-loop-operands l = length (rest_of l.cursor)
