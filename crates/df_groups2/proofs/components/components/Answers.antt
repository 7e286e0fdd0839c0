use Rattle.std.proofs.Common.{◌≡◌, ◌∙◌, ◌+◌, ℕ, List, [], ◌∷◌, Option, length, get_or, drop, sym, ap, subst, map, rules, arith}
use Rattle.std.specs.Option.{unwrap_or}
use Rattle.std.proofs.lemmas.List.{drop_all, drop_more}
use Rattle.std.proofs.lemmas.Result.{IfOk-weaker}
use Rattle.df_groups2.specs.GraphView.{lists_of, targets_of}
use Rattle.df_groups2.specs.Grouping.{IsGrouping, AreComponents}
use Rattle.df_groups2.proofs.Groupings.{grouping_ready}
use Rattle.df_groups2.proofs.Numbering.{numbers_are_components}
use Rattle.df_groups2.proofs.components.components.Goals as goal

pub loop-root-init : goal.loop-root-init
loop-root-init c = record {
  grouping =
      grouping_ready (lists_of c.args.graph.now) (lists_of c.in_ok-back.back) c.in_ok-order.order.items c.deref-root-items.result.now c.in_ok-vec.field-0.items c.len.result
      c.in_ok-back.ensures c.deref-root-items.ensures.value c.len.ensures (c.in_ok-vec.ensures.items_if_clones_equal (λ y e. search rules)) c.in_ok-order.ensures.order c.in_ok-order.ensures.all;
  few = omega arith;
}

pub loop-root-preserved : goal.loop-root-preserved
loop-root-preserved c =
    let items = c.deref-root-items.result.now in
    let i = c.loop-root.root-index in
    let P : List ℕ → Type 0 = λ left. IsGrouping (targets_of c.args.graph.now) (targets_of c.in_ok-back.back) (length (lists_of c.args.graph.now)) left c.loop-root.grouping.count c.loop-root.grouping.groups.items in
    let here : IsGrouping (targets_of c.args.graph.now) (targets_of c.in_ok-back.back) (length (lists_of c.args.graph.now)) (get_or items i 0 ∷ drop (i + 1) items) c.loop-root.grouping.count c.loop-root.grouping.groups.items =
    subst P (drop_more items i 0 c.loop-root-test.true) c.loop-root.invariant.grouping in
    record {
      grouping = c.in_ok-begin.ensures.keeps (lists_of c.in_ok-back.back) (drop (i + 1) items) c.in_ok-back.ensures here;
      few = omega (arith, c.loop-root.invariant.few);
    }

pub returns : goal.returns
returns c =
    let none_left : drop c.loop-root.root-index c.deref-root-items.result.now ≡ [] = drop_all c.loop-root.root-index c.deref-root-items.result.now c.loop-root-test.false in
    let done : IsGrouping (targets_of c.args.graph.now) (targets_of c.in_ok-back.back) (length (lists_of c.args.graph.now)) [] c.loop-root.grouping.count c.loop-root.grouping.groups.items =
    subst (λ (left : List ℕ). IsGrouping (targets_of c.args.graph.now) (targets_of c.in_ok-back.back) (length (lists_of c.args.graph.now)) left c.loop-root.grouping.count c.loop-root.grouping.groups.items) none_left c.loop-root.invariant.grouping
    in
    let components : AreComponents (targets_of c.args.graph.now) (length (lists_of c.args.graph.now)) (map (λ (group : Option ℕ). unwrap_or group 0) c.loop-root.grouping.groups.items) =
    numbers_are_components (targets_of c.args.graph.now) (targets_of c.in_ok-back.back) (length (lists_of c.args.graph.now)) c.loop-root.grouping.count c.loop-root.grouping.groups.items done
    in
    IfOk-weaker c.numbers.result (λ numbers. numbers.items ≡ map (λ (group : Option ℕ). unwrap_or group 0) c.deref.result.now) (λ numbers. AreComponents (targets_of c.args.graph.now) (length (lists_of c.args.graph.now)) numbers.items)
    (λ numbers is. subst (λ (xs : List ℕ). AreComponents (targets_of c.args.graph.now) (length (lists_of c.args.graph.now)) xs) (sym (is ∙ ap (map (λ (group : Option ℕ). unwrap_or group 0)) c.deref.ensures.value)) components) c.numbers.ensures
