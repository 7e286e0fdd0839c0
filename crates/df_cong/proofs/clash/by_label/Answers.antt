use Rattle.std.proofs.Common.{ℕ, ◌==◌, List, None, get_or, drop, ◌+◌, refl, ap, ◌∙◌, arith, if◌then◌else◌}
use Rattle.std.specs.Option.{option_or}
use Rattle.std.specs.Ordering.{nat_cmp}
use Rattle.std.specs.BTreeMap.{get}
use Rattle.df_rules.specs.CongruenceLine.{number_at, number_in}
use Rattle.df_rules.proofs.Scans.{left_here, option_moved}
use Rattle.df_classes.specs.mirror.State.{label_of}
use Rattle.df_classes.specs.PartitionView.{state_of}
use Rattle.df_cong.proofs.clash.by_label.Goals as goal

pub loop-node-preserved : goal.loop-node-preserved
loop-node-preserved c =
    let nodes = c.args.nodes.now in
    let numbers = c.args.numbers.now in
    let label : ℕ → ℕ = label_of (state_of c.args.partition.now) in
    let i = c.loop-node.node-index in
    let x = get_or numbers i 0 in
    λ k.
    c.loop-node.invariant k
    ∙ ap (λ (ns : List ℕ). option_or (number_in nodes label ns k) (get nat_cmp c.loop-node.by_label k)) (left_here numbers i 0 x (omega arith) refl)
    ∙ option_moved (number_in nodes label (drop (i + 1) numbers) k) (if label x == k then number_at nodes x else None) (get nat_cmp c.loop-node.by_label k) (get nat_cmp c.add_number.new.by_label k)
    (c.in_ok-add_number.ensures k)
