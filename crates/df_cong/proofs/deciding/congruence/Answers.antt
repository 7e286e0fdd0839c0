use Rattle.std.proofs.Common.{List, subst}
use Rattle.df_form.specs.declared.log.Lit.{Lit}
use Rattle.df_cong.specs.Theory.{IsAnswer}
use Rattle.df_cong.specs.Congruence.{HasLabels}
use Rattle.df_cong.proofs.Telling.{labels_of_held}
use Rattle.df_cong.proofs.deciding.congruence.Goals as goal

pub returns-in-Quiet : goal.returns-in-Quiet
returns-in-Quiet c =
    let nodes = c.args.nodes.now in
    let holding = c.in_ok-holding.holding in
    subst (λ (ls : List Lit). HasLabels nodes ls c.into_labels.result.items) c.in_ok-holding.ensures.held
    (labels_of_held nodes holding.held.items holding.levels.items holding.partition c.into_labels.result.items c.in_ok-holding.ensures.holding c.into_labels.ensures
    (subst (IsAnswer nodes holding.held.items) c.in-Quiet.is c.in_ok-reason.ensures))
