use Rattle.std.proofs.Common.{map, subst}
use Rattle.df_closure.specs.Closure.{ground_of}
use Rattle.df_closure.specs.Closing.{Rounds}
use Rattle.df_closure.proofs.Rounds.{closes}
use Rattle.df_closure.proofs.closure.close.Goals as goal

pub returns-in-Settled : goal.returns-in-Settled
returns-in-Settled c =
    let clauses = map ground_of c.args.clauses.now in
    let list = c.args.literals.now in
    let left = subst (Rounds clauses c.loop-closing.closing c.round.new.self) c.in-Settled.is c.in_ok-round.ensures list c.loop-closing.invariant in
    closes clauses list c.round.new.self left.0 left.1
