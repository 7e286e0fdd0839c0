use Rattle.std.proofs.Common.{refl, ap, ◌∙◌, List, ℕ, ◌++◌, ◌∷◌, []}
use Rattle.df_classes.specs.declared.partition.Change.{Change}
use Rattle.df_classes.specs.declared.partition.Change.TheVariants as changes
use Rattle.df_classes.specs.mirror.State.{State, undone}
use Rattle.df_classes.specs.PartitionView.{state_of}
use Rattle.df_classes.proofs.Undoing.{entered_back}
use Rattle.df_classes.proofs.Retreating.{extends_none, extends_one}
use Rattle.df_classes.proofs.partition.Partition.enter.Goals as goal

pub returns-in_err-reserve-clause-extends : goal.returns-in_err-reserve-clause-extends
returns-in_err-reserve-clause-extends c = extends_none c.args.self.now _ c.reserve.ensures.items refl refl

pub returns-in_err-push-clause-extends : goal.returns-in_err-push-clause-extends
returns-in_err-push-clause-extends c =
    let s : State = state_of c.args.self.now in
    extends_none c.args.self.now _ c.reserve.ensures.items (λ i. record { labels = s.labels; members = s.members; buckets = c.in_err-push.ensures.err i }) refl

pub returns-clause-extends : goal.returns-clause-extends
returns-clause-extends c =
    let s : State = state_of c.args.self.now in
    let change : Change = changes.Entered c.args.bucket in
    extends_one c.args.self.now _ change (c.in_ok-push-2.ensures.items ∙ ap (λ (cs : List Change). cs ++ change ∷ []) c.reserve.ensures.items)
    (ap (λ (bs : List (List ℕ)). undone change (record { labels = s.labels; members = s.members; buckets = bs })) c.in_ok-push.ensures.pushed ∙ entered_back c.args.bucket c.args.node s c.requires)
    refl
