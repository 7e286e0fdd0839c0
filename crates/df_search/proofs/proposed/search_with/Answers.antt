use Rattle.std.proofs.Common.{subst, IfSome}
use Rattle.df_form.specs.SequentView.{sequent_of}
use Rattle.df_search.specs.Found.{Finds}
use Rattle.df_search.proofs.proposed.search_with.Goals as goal

pub returns-in-Some : goal.returns-in-Some
returns-in-Some c =
    let steps = c.args.budget.steps in
    subst (λ found. IfSome found (Finds (sequent_of c.args.sequent.now) steps c.args.budget.rounds)) c.in-Some.is (c.in_ok-found.ensures steps)
