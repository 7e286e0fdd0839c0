use Rattle.std.proofs.Common.{arith, ◌∙◌, sym}
use Rattle.df_form.specs.Node.{Node}
use Rattle.df_nverdict.specs.Verdict.{is_free}
use Rattle.df_nverdict.proofs.Positions.{begins, goes_on, is_found}
use Rattle.df_nverdict.proofs.parameters.node_of.Goals as goal

pub loop-index-init : goal.loop-index-init
loop-index-init c = begins (λ (node : Node). is_free c.args.number node.op) _

pub returns-then-is_free_at : goal.returns-then-is_free_at
returns-then-is_free_at c =
    is_found (λ (node : Node). is_free c.args.number node.op) c.args.nodes.now c.loop-index.index (sym c.is_free_at.ensures ∙ c.if-is_free_at.true) c.loop-index.invariant

pub loop-index-preserved : goal.loop-index-preserved
loop-index-preserved c =
    goes_on (λ (node : Node). is_free c.args.number node.op) c.args.nodes.now c.loop-index.index (omega (arith, c.len-index-end.ensures.len)) (sym c.is_free_at.ensures ∙ c.if-is_free_at.false) c.loop-index.invariant
