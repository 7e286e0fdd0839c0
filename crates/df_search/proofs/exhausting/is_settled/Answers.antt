use Rattle.std.proofs.Common.{◌≡◌, Bool, true, subst}
use Rattle.std.proofs.lemmas.Result.{IfOk-weaker}
use Rattle.df_form.specs.SequentView.{sequent_of}
use Rattle.df_clause.specs.GroundSet.{GroundSet}
use Rattle.df_clause.specs.GroundView.{set_of}
use Rattle.df_trig.specs.Instances.{with_round, instances}
use Rattle.df_search.proofs.exhausting.is_settled.Goals as goal

-- the ground set is the one with so many rounds
pub returns-in-Ok : goal.returns-in-Ok
returns-in-Ok c =
    let s = sequent_of c.args.sequent.now in
    let set = set_of c.in-Ok.ground in
    let all = instances s c.args.rounds in
    IfOk-weaker c.adds_nothing.result (λ (nothing : Bool). nothing ≡ true → with_round s set ≡ set) (λ (settled : Bool). settled ≡ true → with_round s all ≡ all)
    (λ nothing same is. subst (λ (x : GroundSet). with_round s x ≡ x) c.in-Ok.ensures.set.set (same is)) c.adds_nothing.ensures
