use Rattle.df_nflow.proofs.Words.{◌≡◌, true, map, drop, flat_map, list_all, operand_of, program_of, Grows, standing_of, also, is_operand_over, assert_operand}
use Rattle.df_nflow.proofs.passed.Passed.print.Given as goal

-- with what is left said too, all is
abbrev pub invariant-loop-operand : goal.invariant-loop-operand
invariant-loop-operand l = record {
  grows : Grows l.fn.self.ledger.nodes l.self.ledger.nodes;
  over : list_all (is_operand_over (program_of l.setting.program.now) l.self.types.items) (map operand_of (drop l.operand-index l.operands)) ≡ true;
  said : also (flat_map (assert_operand (standing_of l.fn.self).way) (map operand_of (drop l.operand-index l.operands))) (standing_of l.self) ≡ also (flat_map (assert_operand (standing_of l.fn.self).way) (map operand_of l.operands)) (standing_of l.fn.self);
}
