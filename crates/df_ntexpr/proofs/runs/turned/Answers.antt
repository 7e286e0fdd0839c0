use Rattle.std.proofs.Common.{◌≡◌, [], map, IfOk, sym, ap, ◌∙◌, subst}
use Rattle.std.specs.Vec.Iter.{into_iter_items}
use Rattle.df_lang.specs.declared.expr.Arrow.TheVariants as arrows
use Rattle.df_lang.specs.Expr as pure
use Rattle.df_lang.specs.ExprView as typed
use Rattle.df_ntyping.specs.ExprElaboration.{turned}
use Rattle.df_ntexpr.specs.Parts.{part_of}
use Rattle.df_ntexpr.specs.TypedViews.{member_of}
use Rattle.df_ntexpr.proofs.Turning.{nothing_left, map-reverse}
use Rattle.df_ntexpr.proofs.runs.turned.Goals as goal

pub returns : goal.returns
returns c =
    let at = c.loop-part in
    let empty : into_iter_items at.part-iterator ≡ [] = nothing_left _ (sym at.invariant.1 ∙ c.in-None.ensures.steps.0) in
    let given = c.into_iter-part-iterator.ensures.into_iter_gives.0 in
    let made = ap (map member_of) c.reverse.ensures.items ∙ map-reverse member_of at.rest.items in
    let so_far = (rw empty at at.invariant.0) ∙ ap (λ parts. turned (typed.expr_of c.args.first) pure.no_member (map part_of parts)) given in
    let all = ap (λ rest. pure.Implies arrows.Explies (typed.expr_of at.first) (typed.members_of rest)) made ∙ so_far in
    subst (λ (x : pure.Expr). IfOk c.explied.result (λ e. typed.expr_of e ≡ x)) all c.explied.ensures
