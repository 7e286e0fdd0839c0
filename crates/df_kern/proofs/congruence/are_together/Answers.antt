use Rattle.std.proofs.Common.{get_or, refl, sym, ap, ◌∙◌, arith}
use Rattle.df_rules.specs.Classes.{is_together}
use Rattle.df_kern.specs.ClassesView.{class_of}
use Rattle.df_rules.proofs.Scans.{pair_differs, pair_next}
use Rattle.df_kern.proofs.congruence.are_together.Goals as goal

pub returns-then-not-branch-clause-together : goal.returns-then-not-branch-clause-together
returns-then-not-branch-clause-together c =
    let first = c.args.first.now in
    let second = c.args.second.now in
    let i = c.loop-place.place in
    let x = get_or first i 0 in
    let y = c.in-Some.other.now in
    pair_differs (is_together (class_of c.args.classes.now)) first second i 0 x 0 y (omega arith) refl c.in-Some.ensures.lookup.3.0 (sym (c.in-Some.ensures.lookup.3.1 0))
    c.loop-place.invariant.1
    (ap (λ f. is_together f x y) (sym c.loop-place.invariant.0) ∙ sym c.in_ok-are_together.ensures.together ∙ c.if-not-branch.true)

pub loop-place-preserved : goal.loop-place-preserved
loop-place-preserved c =
    let first = c.args.first.now in
    let second = c.args.second.now in
    let i = c.loop-place.place in
    let x = get_or first i 0 in
    let y = c.in-Some.other.now in (
      c.in_ok-are_together.ensures.same ∙ c.loop-place.invariant.0,
      pair_next (is_together (class_of c.args.classes.now)) first second i 0 x 0 y (omega arith) refl c.in-Some.ensures.lookup.3.0 (sym (c.in-Some.ensures.lookup.3.1 0))
          c.loop-place.invariant.1
          (ap (λ f. is_together f x y) (sym c.loop-place.invariant.0) ∙ sym c.in_ok-are_together.ensures.together ∙ c.if-not-branch.false),
    )
