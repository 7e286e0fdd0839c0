use Rattle.df_closure.proofs.Rounds.{begun}
use Rattle.df_closure.proofs.closing.Closing.of.Goals as goal

pub returns : goal.returns
returns c = λ clauses. begun clauses c.args.literals.now _ c.in_ok-known.ensures c.new.ensures.items c.new-2.ensures.items
