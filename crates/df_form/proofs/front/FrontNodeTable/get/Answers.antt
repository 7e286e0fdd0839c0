use Rattle.std.proofs.Common.{◌≡◌, true, take, slice_get, IfSome, ap, subst, ◌∙◌}
use Rattle.df_form.specs.Node.{node_of}
use Rattle.df_form.specs.Sorting.{is_well_sorted}
use Rattle.df_form.proofs.front.FrontNodeTable.get.Goals as goal

pub returns-clause-node : goal.returns-clause-node
returns-clause-node c = c.get.ensures.node ∙ ap (λ nodes. slice_get nodes c.args.number) c.lent.ensures

pub returns-clause-sorted : goal.returns-clause-sorted
returns-clause-sorted c = subst (λ nodes. IfSome c.get.result (λ node. is_well_sorted (take c.args.number nodes) (node_of node.now) ≡ true)) c.lent.ensures c.get.ensures.sorted
