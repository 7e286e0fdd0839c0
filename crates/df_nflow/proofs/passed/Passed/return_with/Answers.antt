use Rattle.df_nflow.proofs.Words.{standing_of, changed_in, if_ok, grows_then}
use Rattle.df_nflow.proofs.Flowing.{moves_return}
use Rattle.df_nflow.proofs.passed.Passed.return_with.Goals as goal

pub returns-clause-passes : goal.returns-clause-passes
returns-clause-passes c =
    if_ok c.leave_method.result _ _ c.leave_method.ensures.passes (λ onward passes.
    moves_return (changed_in c.args.exits.in_loop.now) (changed_in c.args.exits.in_method.now) (standing_of c.args.self.now) (standing_of c.optional.new.self) (standing_of c.leave_method.new.self) _ onward.goes_on onward.loses c.in_ok-optional.ensures.moves passes)

-- ---- on every way out

pub returns-clause-grows : goal.returns-clause-grows
returns-clause-grows c = grows_then _ _ _ c.optional.ensures.grows c.leave_method.ensures.grows
