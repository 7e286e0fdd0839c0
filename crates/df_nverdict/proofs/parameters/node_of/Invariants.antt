use Rattle.df_form.specs.Node.{Node}
use Rattle.df_nverdict.specs.Verdict.{is_free}
use Rattle.df_nverdict.proofs.Positions.{IsFrom}
use Rattle.df_nverdict.proofs.parameters.node_of.Given as goal

abbrev pub invariant-loop-index : goal.invariant-loop-index
invariant-loop-index l = IsFrom (λ (node : Node). is_free l.number node.op) l.nodes l.index
