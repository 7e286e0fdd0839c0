use Rattle.std.proofs.Common.{map}
use Rattle.df_closure.specs.Closure.{ground_of}
use Rattle.df_branch.proofs.Leaves.{closed_list}
use Rattle.df_branch.proofs.leaf.leaf_at.Goals as goal

pub closed_leaf-requires-clause-formulas : goal.closed_leaf-requires-clause-formulas
closed_leaf-requires-clause-formulas c =
    (closed_list c.args.set.now (map ground_of c.args.clauses.now) c.args.nodes.now c.args.branch.now c.requires c.in_ok-numbers.field-0 c.in-Closed.known c.in-Closed.learned c.in-Closed.reasons c.in_ok-numbers.ensures c.in-Closed.is
    c.deref.result.now c.in_ok-facts-in-Closed.facts.items c.deref.ensures.value c.in_ok-facts-in-Closed.ensures).formulas
