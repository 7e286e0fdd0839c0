use Rattle.std.proofs.Common.{IfOk, List, map, ap, ◌∙◌, subst}
use Rattle.std.specs.List.{list_all}
use Rattle.df_form.specs.Clause.{are_literals}
use Rattle.df_clause.specs.declared.clause.GroundClause as declared
use Rattle.df_closure.specs.Closure.{GroundClause, ground_of}
use Rattle.df_branch.specs.Standing.{TellsStanding}
use Rattle.df_search.proofs.searching.State.standing.Goals as goal

pub standing_at-requires-clause-table : goal.standing_at-requires-clause-table
standing_at-requires-clause-table c = c.requires.place.table

pub standing_at-requires-clause-formulas : goal.standing_at-requires-clause-formulas
standing_at-requires-clause-formulas c = c.requires.formulas

pub standing_at-requires-clause-clause_formulas : goal.standing_at-requires-clause-clause_formulas
standing_at-requires-clause-clause_formulas c =
    ap (λ (cs : List declared.GroundClause). list_all (λ (clause : GroundClause). are_literals c.args.self.now.derivation.nodes clause.literals) (map ground_of cs)) c.deref.ensures.value ∙ c.requires.place.clause_formulas

pub returns : goal.returns
returns c =
    subst (λ (cs : List declared.GroundClause). IfOk c.standing_at.result (TellsStanding (map ground_of cs) c.args.self.now.derivation.nodes c.args.before.now)) c.deref.ensures.value c.standing_at.ensures
