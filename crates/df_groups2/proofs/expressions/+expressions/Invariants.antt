use Rattle.std.proofs.Common.{◌≡◌, ◌++◌, drop}
use Rattle.df_types.specs.Gathering.{gather_all, gather_links, gather_arms}
use Rattle.df_types.specs.Calls.{called}
use Rattle.df_groups2.specs.Parts.{exprs_in, links_in, arms_in, operand_values, calls_in}
use Rattle.df_groups2.proofs.expressions.+expressions.Given as goal

-- the calls so far, in front of those of what is left, are those of all
abbrev pub invariant-of_exprs-loop-expr : goal.invariant-of_exprs-loop-expr
invariant-of_exprs-loop-expr l = l.callees.items ++ gather_all called (exprs_in (drop l.expr-index l.expr-items)) ≡ l.fn.callees.items ++ gather_all called (exprs_in l.expr-items)

abbrev pub invariant-of_operands-loop-operand : goal.invariant-of_operands-loop-operand
invariant-of_operands-loop-operand l = l.callees.items ++ calls_in (operand_values (drop l.operand-index l.operand-items)) ≡ l.fn.callees.items ++ calls_in (operand_values l.operand-items)

abbrev pub invariant-of_links-loop-link : goal.invariant-of_links-loop-link
invariant-of_links-loop-link l = l.callees.items ++ gather_links called (links_in (drop l.link-index l.link-items)) ≡ l.fn.callees.items ++ gather_links called (links_in l.link-items)

abbrev pub invariant-of_arms-loop-arm : goal.invariant-of_arms-loop-arm
invariant-of_arms-loop-arm l = l.callees.items ++ gather_arms called (arms_in (drop l.arm-index l.arm-items)) ≡ l.fn.callees.items ++ gather_arms called (arms_in l.arm-items)
