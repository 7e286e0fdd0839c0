use Rattle.std.proofs.Common.{◌≡◌, Bool, true, sym, ◌∙◌}
use Rattle.std.proofs.lemmas.Result.{IfOk-weaker}
use Rattle.df_form.specs.SequentView.{sequent_of}
use Rattle.df_trig.specs.Instances.{with_round, instances}
use Rattle.df_search.specs.Found.{Finds}
use Rattle.df_search.proofs.Widening.{other_within, settled_within}
use Rattle.df_search.proofs.exhausting.is_final.Goals as goal

pub returns-then-not-is_model : goal.returns-then-not-is_model
returns-then-not-is_model c = λ last finds.
    other_within (sequent_of c.args.sequent.now) c.args.rounds c.args.budget.rounds c.requires c.args.budget.steps c.args.found.now (sym c.is_model.ensures ∙ c.if-not-is_model.true) finds

pub returns : goal.returns
returns c =
    let s = sequent_of c.args.sequent.now in
    let own = c.args.rounds in
    let most = c.args.budget.rounds in
    let found = c.args.found.now in
    let steps = c.args.budget.steps in
    IfOk-weaker c.is_settled.result (λ (settled : Bool). settled ≡ true → with_round s (instances s own) ≡ instances s own) (λ (last : Bool). last ≡ true → Finds s steps own found → Finds s steps most found)
    (λ last nothing is finds. settled_within s own most c.requires (nothing is) steps found finds) c.is_settled.ensures
