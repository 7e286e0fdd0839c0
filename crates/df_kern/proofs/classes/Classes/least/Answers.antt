use Rattle.std.proofs.Common.{sym, ap, ◌∙◌}
use Rattle.df_kern.proofs.classes.Classes.least.Goals as goal

pub loop-lesser-preserved : goal.loop-lesser-preserved
loop-lesser-preserved c =
    let at = c.in_ok-at.at in
    let old = c.loop-lesser.invariant.0 in
    (c.in_ok-at.ensures.same ∙ old, ap (λ f. f at) (sym old) ∙ c.in_ok-at.ensures.class ∙ ap (λ f. f c.loop-lesser.at) old ∙ c.loop-lesser.invariant.1)

pub returns-clause-least : goal.returns-clause-least
returns-clause-least c = sym c.in_default.ensures.class ∙ ap (λ f. f c.loop-lesser.at) c.loop-lesser.invariant.0 ∙ c.loop-lesser.invariant.1

pub returns-clause-own : goal.returns-clause-own
returns-clause-own c = ap (λ f. f c.loop-lesser.at) (sym c.loop-lesser.invariant.0) ∙ c.in_default.ensures.class
