use Rattle.std.proofs.Common.{take, sym, ap, subst, ◌∙◌}
use Rattle.df_form.specs.Keyed.{node_in, nodes_in, AreKeyed}
use Rattle.df_form.proofs.Fronts.{map_take}
use Rattle.df_form.proofs.KeyedNodes.{keyed-take}
use Rattle.df_form.proofs.own_nodes.OwnNodes.truncate.Goals as goal

pub invariant_of-self : goal.invariant_of-self
invariant_of-self c = subst (λ entries. AreKeyed entries c.self.inside.lists) (sym c.truncate.ensures.entries) (keyed-take c.self.inside.nodes.entries c.self.inside.lists c.args.len c.self.invariant)

pub returns : goal.returns
returns c = ap nodes_in c.truncate.ensures.entries ∙ map_take node_in c.args.len c.self.inside.nodes.entries ∙ ap (take c.args.len) c.self.view_is
