use Rattle.std.proofs.Common.{◌≡◌, [], length, map, sym, ap, ◌∙◌, append-nil, arith}
use Rattle.std.specs.Vec.Iter.{into_iter_items}
use Rattle.df_lang.specs.ExprView as typed
use Rattle.df_lang.specs.ExprView.{expr_of}
use Rattle.df_ntexpr.specs.TypedViews.{link_of}
use Rattle.df_ntexpr.proofs.TypedParts.{made_link, one_more}
use Rattle.df_ntexpr.proofs.Turning.{link_from, links_from, nothing_left}
use Rattle.df_ntexpr.proofs.runs.links.Goals as goal

pub loop-part-preserved : goal.loop-part-preserved
loop-part-preserved c =
    let at = c.loop-part in
    let part = c.in-Some.part in
    let steps = c.in-Some.ensures.steps in (
      one_more link_of link_from at.links.items c.push.new.self.items _ part (into_iter_items at.part-iterator) (into_iter_items c.next.new.self) _ (made_link _ ∙ (λ i. record { comparison = c.comparison_of.ensures i; pos = part.pos; operand = expr_of part.operand })) c.in_ok-push.ensures.items steps.0 at.invariant.0,
      omega (arith, steps.1, ap length steps.0, at.invariant.1),
    )

pub returns : goal.returns
returns c =
    let at = c.loop-part in
    let empty : into_iter_items at.part-iterator ≡ [] = nothing_left _ (sym at.invariant.1 ∙ c.in-None.ensures.steps.0) in
    let made = sym (append-nil _) ∙ (rw empty at at.invariant.0) ∙ ap (map link_from) c.into_iter-part-iterator.ensures.into_iter_gives.0 in
    ap typed.links_of made ∙ links_from c.args.parts.items
