use Rattle.std.proofs.Common.{◌≡◌, ◌∙◌, sym, subst, ℕ, ℤ, List, Some, None, rules}
use Rattle.std.proofs.lemmas.Int.{to_z-of_z}
use Rattle.df_row.specs.RowView.{narrow}
use Rattle.df_row.proofs.Rows.{passed}
use Rattle.df_level.specs.Exact.{weighted}
use Rattle.df_level.specs.Merge.{first_coefficient}
use Rattle.df_level.proofs.Merging.{IsMerging, merging_begins, merging_next, merging_fails, merging_ends, number_at, step_shorter}
use Rattle.df_level.proofs.entries.weighted_entries.Goals as goal

pub loop-node-init : goal.loop-node-init
loop-node-init c =
    let f = passed c.args.f in
    let g = passed c.args.g in
    let left = c.args.left.now in
    let right = c.args.right.now in
    let P : List (ℕ × ℤ) → Type 0 = λ sum. IsMerging f left g right left right sum in
    subst P (sym c.new-sum.ensures.items) (merging_begins f left g right c.requires.left c.requires.right)

pub loop-node-smaller : goal.loop-node-smaller
loop-node-smaller c = step_shorter c.loop-node.left_rest.now c.loop-node.right_rest.now c.split_node-a.result.1.now c.split_node-b.result.1.now c.in-Some.node (sym c.lowest_node.ensures ∙ c.in-Some.is) c.split_node-a.ensures.others c.split_node-b.ensures.others

pub loop-node-preserved : goal.loop-node-preserved
loop-node-preserved c =
    let f = passed c.args.f in
    let g = passed c.args.g in
    let left = c.args.left.now in
    let right = c.args.right.now in
    let a = c.loop-node.left_rest.now in
    let b = c.loop-node.right_rest.now in
    let n = c.in-Some.node in
    let x = c.split_node-a.result.0 in
    let y = c.split_node-b.result.0 in
    let s = c.in-Some-weighted_sum.coefficient in
    let x_passes : passed x ≡ x = search (rules, to_z-of_z) in
    let y_passes : passed y ≡ y = search (rules, to_z-of_z) in
    let s_passes : passed s ≡ s = search (rules, to_z-of_z) in
    let some = number_at f g (passed x) (passed y) (first_coefficient n a) (first_coefficient n b) (Some s) (c.in-Some-weighted_sum.ensures) (x_passes ∙ c.split_node-a.ensures.coefficient) (y_passes ∙ c.split_node-b.ensures.coefficient) in
    merging_next f left g right a b c.loop-node.sum.items c.split_node-a.result.1.now c.split_node-b.result.1.now c.push_entry.new.entries.items n s (passed s) c.loop-node.invariant (sym c.lowest_node.ensures ∙ c.in-Some.is) some c.split_node-a.ensures.others c.split_node-b.ensures.others (c.in_ok-push_entry.ensures.entry) s_passes

pub returns-in_default-weighted_sum : goal.returns-in_default-weighted_sum
returns-in_default-weighted_sum c =
    let f = c.args.f in
    let g = c.args.g in
    let left = c.args.left.now in
    let right = c.args.right.now in
    let a = c.loop-node.left_rest.now in
    let b = c.loop-node.right_rest.now in
    let n = c.in-Some.node in
    let x = c.split_node-a.result.0 in
    let y = c.split_node-b.result.0 in
    let so_far : IsMerging f left g right a b c.loop-node.sum.items = search (rules, to_z-of_z) in
    let e : c.weighted_sum.result ≡ narrow (weighted f x g y) = search (rules, to_z-of_z) in
    let none = number_at f g x y (first_coefficient n a) (first_coefficient n b) None (sym c.in_default-weighted_sum.is ∙ e) c.split_node-a.ensures.coefficient c.split_node-b.ensures.coefficient in
    merging_fails f left g right a b c.loop-node.sum.items n so_far (sym c.lowest_node.ensures ∙ c.in-Some.is) none

pub returns : goal.returns
returns c =
    let left = c.args.left.now in
    let right = c.args.right.now in
    let a = c.loop-node.left_rest.now in
    let b = c.loop-node.right_rest.now in
    let so_far : IsMerging c.args.f left c.args.g right a b c.loop-node.sum.items = search (rules, to_z-of_z) in
    merging_ends c.args.f left c.args.g right a b c.loop-node.sum.items so_far (sym c.lowest_node.ensures ∙ c.in_default.is)
