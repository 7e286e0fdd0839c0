use Rattle.std.proofs.Common.{◌∙◌, subst}
use Rattle.df_trail.specs.Trail.{TellsBefore}
use Rattle.df_search.proofs.Ending.{shortens_kept}
use Rattle.df_search.proofs.searching.State.shortened.Goals as goal

pub end_before-requires-clause-placed : goal.end_before-requires-clause-placed
end_before-requires-clause-placed c = c.requires

pub end_before-requires-clause-fresh : goal.end_before-requires-clause-fresh
end_before-requires-clause-fresh c =
    let told = subst (TellsBefore c.args.self.now.trail) c.in-Some.is c.in_ok-before.ensures in
    (told.0, c.deref.ensures.value ∙ told.1)

pub returns-in-None-clause-shortens : goal.returns-in-None-clause-shortens
returns-in-None-clause-shortens c = shortens_kept c.args.self.now (subst (TellsBefore c.args.self.now.trail) c.in-None.is c.in_ok-before.ensures)
