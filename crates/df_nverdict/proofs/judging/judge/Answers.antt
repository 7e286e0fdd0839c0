use Rattle.std.proofs.Common.{subst}
use Rattle.df_form.specs.SequentView.{sequent_of}
use Rattle.df_search.specs.Found.{Finds}
use Rattle.df_nverdict.specs.declared.judging.Proof.{Proof}
use Rattle.df_nverdict.proofs.judging.judge.Goals as goal

pub returns-in-Proved : goal.returns-in-Proved
returns-in-Proved c =
    let proof : Proof = record { accepted = c.in-Proved.accepted; log = c.in-Proved.log } in
    (proof, subst (Finds (sequent_of c.args.sequent.now) c.args.budget.steps c.args.budget.rounds) c.in-Proved.is c.in_ok-accepted.ensures, c.in_ok-push-in-Proved.ensures.items)
