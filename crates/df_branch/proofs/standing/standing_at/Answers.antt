use Rattle.std.proofs.Common.{map}
use Rattle.df_closure.specs.Closure.{ground_of}
use Rattle.df_branch.proofs.Leaves.{ok_weaker, closed_at}
use Rattle.df_branch.proofs.standing.standing_at.Goals as goal

pub closed_standing-requires-clause-formulas : goal.closed_standing-requires-clause-formulas
closed_standing-requires-clause-formulas c =
    (closed_at (map ground_of c.args.clauses.now) c.args.nodes.now c.requires.clause_formulas c.args.list.now c.requires.formulas c.in_ok-numbers.field-0 c.in-Closed.known c.in-Closed.learned c.in-Closed.reasons c.in_ok-numbers.ensures c.in-Closed.is
    c.deref.result.now c.in_ok-facts-in-Closed.facts.items c.deref.ensures.value c.in_ok-facts-in-Closed.ensures).formulas

pub returns : goal.returns
returns c =
    ok_weaker c.closed_standing.result _ _
    (λ standing says. says (map ground_of c.args.clauses.now) c.args.list.now
    (closed_at (map ground_of c.args.clauses.now) c.args.nodes.now c.requires.clause_formulas c.args.list.now c.requires.formulas c.in_ok-numbers.field-0 c.in-Closed.known c.in-Closed.learned c.in-Closed.reasons c.in_ok-numbers.ensures c.in-Closed.is
    c.deref.result.now c.in_ok-facts-in-Closed.facts.items c.deref.ensures.value c.in_ok-facts-in-Closed.ensures))
    c.closed_standing.ensures
