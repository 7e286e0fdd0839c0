use Rattle.std.proofs.Common.{List, subst, ◌∙◌}
use Rattle.std.proofs.lemmas.Result.{IfOk-weaker}
use Rattle.df_form.specs.declared.log.Lit.{Lit}
use Rattle.df_trail.specs.Trail.{HasAll}
use Rattle.df_search.proofs.searching.State.needs.Goals as goal

pub returns : goal.returns
returns c = IfOk-weaker c.needed.result _ _ (λ needed held. subst (λ (list : List Lit). HasAll list needed.items) (c.deref-2.ensures.value ∙ c.in_ok-branch.ensures) held) c.needed.ensures
