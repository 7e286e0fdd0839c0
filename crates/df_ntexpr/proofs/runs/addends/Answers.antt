use Rattle.std.proofs.Common.{◌≡◌, [], length, map, sym, ap, ◌∙◌, append-nil, arith}
use Rattle.std.specs.Vec.Iter.{into_iter_items}
use Rattle.df_lang.specs.ExprView as typed
use Rattle.df_lang.specs.ExprView.{expr_of}
use Rattle.df_ntexpr.specs.TypedViews.{addend_of}
use Rattle.df_ntexpr.proofs.TypedParts.{made_addend, one_more}
use Rattle.df_ntexpr.proofs.Turning.{addend_from, addends_from, nothing_left}
use Rattle.df_ntexpr.proofs.runs.addends.Goals as goal

pub loop-part-preserved : goal.loop-part-preserved
loop-part-preserved c =
    let at = c.loop-part in
    let part = c.in-Some.part in
    let steps = c.in-Some.ensures.steps in (
      one_more addend_of addend_from at.addends.items c.push.new.self.items _ part (into_iter_items at.part-iterator) (into_iter_items c.next.new.self) _ (made_addend _ ∙ (λ i. record { operator = c.addend_operator.ensures i; pos = part.pos; operand = expr_of part.operand })) c.in_ok-push.ensures.items steps.0 at.invariant.0,
      omega (arith, steps.1, ap length steps.0, at.invariant.1),
    )

pub returns : goal.returns
returns c =
    let at = c.loop-part in
    let empty : into_iter_items at.part-iterator ≡ [] = nothing_left _ (sym at.invariant.1 ∙ c.in-None.ensures.steps.0) in
    let made = sym (append-nil _) ∙ (rw empty at at.invariant.0) ∙ ap (map addend_from) c.into_iter-part-iterator.ensures.into_iter_gives.0 in
    ap typed.addends_of made ∙ addends_from c.args.parts.items
