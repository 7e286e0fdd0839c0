use Rattle.std.proofs.Common.{arith}
use Rattle.df_form.proofs.Drafts.{sorts_stacked, nodes_stacked, stack_stacked}
use Rattle.df_form.proofs.draft.Draft.stack_all.Goals as goal

pub apply-requires-clause-takes : goal.apply-requires-clause-takes
apply-requires-clause-takes c = sorts_stacked _ _ _ _ _ _ _ _ c.loop-term.invariant.stack (omega arith) (omega arith) c.loop-term.invariant.nodes c.requires.takes

pub returns-clause-nodes : goal.returns-clause-nodes
returns-clause-nodes c = nodes_stacked _ _ _ _ _ _ _ _ _ _ c.loop-term.invariant.stack (omega arith) (omega arith) c.loop-term.invariant.nodes c.apply.ensures.nodes

pub returns-clause-stack : goal.returns-clause-stack
returns-clause-stack c = stack_stacked _ _ _ _ _ _ _ _ _ _ c.loop-term.invariant.stack (omega arith) (omega arith) c.loop-term.invariant.nodes c.apply.ensures.stack
