use Rattle.std.proofs.Common.{ℕ, ◌==◌, ◌&&◌, get_or, refl, arith}
use Rattle.std.specs.Ordering.{nat_cmp}
use Rattle.std.specs.BTreeSet.{contains}
use Rattle.df_form.specs.declared.log.Lit.{Lit}
use Rattle.df_form.specs.Clause.{no}
use Rattle.df_rules.proofs.Scans.{any_added}
use Rattle.df_classes.specs.mirror.State.{label_of}
use Rattle.df_classes.specs.PartitionView.{state_of}
use Rattle.df_cong.proofs.clash.positives.Goals as goal

pub loop-literal-preserved : goal.loop-literal-preserved
loop-literal-preserved c =
    let literals = c.args.literals.now in
    let i = c.loop-literal.literal-index in
    let x : Lit = get_or literals i (no 0) in
    let label : ℕ → ℕ = label_of (state_of c.args.partition.now) in
    λ k.
    any_added literals i (no 0) x (omega arith) refl (λ (l : Lit). l.positive && label l.node == k) (contains nat_cmp c.loop-literal.labels k) (contains nat_cmp c.add_positive.new.labels k) (c.loop-literal.invariant k)
    (c.in_ok-add_positive.ensures k)
