use Rattle.std.proofs.Common.{inl, inr, refl, sym, ap, ◌∙◌}
use Rattle.std.specs.List.{list_any}
use Rattle.df_rules.proofs.Results.{on_ok}
use Rattle.df_classes.specs.mirror.State.{label_of}
use Rattle.df_classes.specs.mirror.Closure.{alike_to}
use Rattle.df_classes.specs.PartitionView.{state_of}
use Rattle.df_classes.proofs.Retreating.{extends_none}
use Rattle.df_classes.proofs.closing.enter.Goals as goal

pub returns-then-has_alike-clause-enters : goal.returns-then-has_alike-clause-enters
returns-then-has_alike-clause-enters c =
    let test = alike_to c.args.nodes.now (label_of (state_of c.args.partition.now)) c.args.node in inl (ap (list_any test) (sym c.bucket.ensures) ∙ sym c.has_alike.ensures ∙ c.if-has_alike.true, refl)

pub returns-then-has_alike-clause-extends : goal.returns-then-has_alike-clause-extends
returns-then-has_alike-clause-extends c = extends_none c.args.partition.now c.args.partition.now refl refl refl

pub returns-clause-enters : goal.returns-clause-enters
returns-clause-enters c = on_ok c.enter.result (λ e. inr e) c.enter.ensures.entered
