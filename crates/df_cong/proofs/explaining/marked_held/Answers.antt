use Rattle.std.proofs.Common.{List, subst}
use Rattle.df_rules.proofs.Results.{if_ok}
use Rattle.df_form.specs.declared.log.Lit.{Lit}
use Rattle.df_cong.specs.mirror.Replay.{AreFrom}
use Rattle.df_cong.proofs.explaining.marked_held.Goals as goal

pub returns : goal.returns
returns c = if_ok c.marked_literals.result _ _ c.marked_literals.ensures (λ kept h. subst (λ (ls : List Lit). AreFrom ls kept.items) c.deref.ensures.value h)
