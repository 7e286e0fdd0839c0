use Rattle.std.proofs.Common.{not, ◌&&◌, ◌∙◌}
use Rattle.std.specs.List.{list_any}
use Rattle.df_form.specs.declared.log.Lit.{Lit}
use Rattle.df_rules.proofs.Results.{if_ok}
use Rattle.df_kern.proofs.opposite.has_opposites.Goals as goal

pub returns-clause-opposites : goal.returns-clause-opposites
returns-clause-opposites c =
    if_ok c.has_opposite.result _ _ c.has_opposite.ensures.opposite
    (λ yes e. e ∙ (λ j. list_any (λ (l : Lit). not l.positive && c.in_ok-positives.ensures.positives (c.in_ok-positives.ensures.same j l.node) j) c.args.clause.now))
