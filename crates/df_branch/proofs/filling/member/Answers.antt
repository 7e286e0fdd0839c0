use Rattle.std.proofs.Common.{◌∙◌, subst, ap, true, refl}
use Rattle.std.specs.List.{list_any}
use Rattle.df_form.specs.Clause.{Clause}
use Rattle.df_rules.specs.Known.{knows}
use Rattle.df_closure.specs.Closure.{ground_of}
use Rattle.df_branch.specs.Filling.{TellsUndecided}
use Rattle.df_branch.proofs.OpenClauses.{any_known, found}
use Rattle.df_branch.proofs.filling.member.Goals as goal

pub returns : goal.returns
returns c = λ literals is.
    found c.args.known.now (ground_of c.args.clause.now) true c.is_met.result literals is (c.if-not-counts.ensures literals is)
    (c.is_met.ensures ∙ ap (list_any (knows c.args.known.now)) c.deref.ensures.value ∙ any_known c.args.known.now literals c.args.clause.now.literals.items is)
    c.undecided.result refl c.if-is_met.false (subst (λ (clause : Clause). TellsUndecided literals clause c.undecided.result) c.deref-2.ensures.value (c.undecided.ensures literals is))
