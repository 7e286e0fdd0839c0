use Rattle.std.proofs.Common.{arith}
use Rattle.df_form.specs.SequentView.{sequent_of}
use Rattle.df_search.proofs.Widening.{at_most}
use Rattle.df_search.proofs.exhausting.exhaust.Goals as goal

pub returns-then-rounds-most : goal.returns-then-rounds-most
returns-then-rounds-most c =
    at_most (sequent_of c.args.sequent.now) c.loop-found.rounds c.args.budget.rounds (omega (arith, c.loop-found.invariant, c.if-rounds-most.true)) c.args.budget.steps c.in_ok-found.found c.in_ok-found.ensures

pub returns-then-branch : goal.returns-then-branch
returns-then-branch c = c.in_ok-is_final.ensures c.if-branch.true c.in_ok-found.ensures
