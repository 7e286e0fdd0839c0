use Rattle.std.proofs.Common.{refl, ap, ◌∙◌, List, ℕ, set, ◌++◌, ◌∷◌, []}
use Rattle.df_classes.specs.declared.partition.Change.{Change}
use Rattle.df_classes.specs.declared.partition.Change.TheVariants as changes
use Rattle.df_classes.specs.mirror.State.{State, label_of, undone}
use Rattle.df_classes.specs.PartitionView.{state_of}
use Rattle.df_classes.proofs.Undoing.{moved_back}
use Rattle.df_classes.proofs.Retreating.{extends_none, extends_one}
use Rattle.df_classes.proofs.partition.Partition.relabel.Goals as goal

pub returns-in_err-reserve-clause-extends : goal.returns-in_err-reserve-clause-extends
returns-in_err-reserve-clause-extends c = extends_none c.args.self.now _ c.reserve.ensures.items refl refl

pub returns-in_err-push-clause-extends : goal.returns-in_err-push-clause-extends
returns-in_err-push-clause-extends c =
    let s : State = state_of c.args.self.now in
    extends_none c.args.self.now _ c.reserve.ensures.items (λ i. record { labels = s.labels; members = c.in_err-push.ensures.err i; buckets = s.buckets }) refl

pub returns-clause-extends : goal.returns-clause-extends
returns-clause-extends c =
    let s : State = state_of c.args.self.now in
    let node = c.args.node in
    let labels : List ℕ = set s.labels node c.args.label in
    let change : Change = changes.Moved node c.label-before.result in
    extends_one c.args.self.now _ change (c.in_ok-push-2.ensures.items ∙ ap (λ (cs : List Change). cs ++ change ∷ []) c.reserve.ensures.items)
    (ap (λ (l : ℕ). undone (changes.Moved node l) (record { labels = labels; members = c.push.new.self; buckets = s.buckets })) c.label-before.ensures
    ∙ ap (λ (ms : List (List ℕ)). undone (changes.Moved node (label_of s node)) (record { labels = labels; members = ms; buckets = s.buckets })) c.in_ok-push.ensures.pushed
    ∙ moved_back node c.args.label s c.requires.node c.requires.label)
    refl
