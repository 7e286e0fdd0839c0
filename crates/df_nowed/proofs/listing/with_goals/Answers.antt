use Rattle.df_nowed.proofs.Words.{arith, map, sym, ap, ◌∙◌, subst, AllByRecursion, with_goal}
use Rattle.std.proofs.lemmas.List.{take_all}
use Rattle.df_nowed.specs.Owed.{IsOwed}
use Rattle.df_nowed.proofs.Anew.{goals_owed}
use Rattle.df_nowed.proofs.listing.with_goals.Goals as goal

pub returns-clause-owed : goal.returns-clause-owed
returns-clause-owed c =
    let all = c.loop-obligation.invariant.same ∙ ap (map (with_goal c.args.known.now)) (take_all c.loop-obligation.obligation-index c.args.obligations.now (omega arith)) in
    subst (AllByRecursion (IsOwed c.args.known.now)) (sym all) (goals_owed c.args.known.now c.args.obligations.now c.requires)
