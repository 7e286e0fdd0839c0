use Rattle.std.proofs.Common.{◌∙◌, ap, subst, slice_get}
use Rattle.df_form.specs.Sorting.{IsTable}
use Rattle.df_form.proofs.Fronts.{sorted-read}
use Rattle.df_form.proofs.nodes.NodesNodeTable.get.Goals as goal

pub returns-clause-node : goal.returns-clause-node
returns-clause-node c = c.node.ensures ∙ ap (λ nodes. slice_get nodes c.args.number) c.self.view_is

pub returns-clause-sorted : goal.returns-clause-sorted
returns-clause-sorted c = sorted-read c.args.self.now c.args.number c.node.result (subst IsTable c.self.view_is c.self.invariant.0) (returns-clause-node c)
