use Rattle.std.proofs.Common.{ap}
use Rattle.df_form.specs.Keyed.{nodes_in}
use Rattle.df_form.proofs.KeyedNodes.{keyed-none}
use Rattle.df_form.proofs.own_nodes.OwnNodes.new.Goals as goal

pub invariant_of-result : goal.invariant_of-result
invariant_of-result c = keyed-none c.new.result.entries c.new-2.result c.new.ensures.empty

pub returns : goal.returns
returns c = ap nodes_in c.new.ensures.empty
