use Rattle.std.proofs.Common.{◌≡◌, ◌∙◌, sym, ap, subst, ℕ, ℤ, List, Some, rules}
use Rattle.std.proofs.lemmas.Int.{to_z-of_z}
use Rattle.df_integer.specs.declared.integer.Integer.{Integer}
use Rattle.df_integer.specs.Integer.{value}
use Rattle.df_row.specs.declared.row.RowFault.TheVariants as faults
use Rattle.df_row.specs.Row.{Row}
use Rattle.df_row.specs.RowView.{coefficient_at}
use Rattle.df_row.proofs.Rows.{passed}
use Rattle.df_row.proofs.RowFold.{IsMaking, making_goes, making_fails}
use Rattle.df_row.proofs.RowNarrow.{narrow_step, narrowed_some, narrowed_fails}
use Rattle.df_row.proofs.expansion.Expansion.narrowed.Goals as goal

pub returns-in_default : goal.returns-in_default
returns-in_default c = λ count within.
    let sum = c.args.self.now in
    let all = sum.coefficients.entries in
    let made = c.loop-node.coefficients.entries in
    let sorted = c.into_iter-node-iterator.ensures.into_iter_gives.5 in
    let P : List (ℕ × Integer) → Type 0 = λ left. IsMaking narrow_step all left made in
    let so_far = subst P c.in-Some.ensures.steps c.loop-node.invariant in
    let none = making_fails narrow_step all c.next.new.self made c.in-Some.node.now c.in-Some.coefficient.now so_far faults.Refused (sym c.narrow.ensures ∙ c.in_default.is) in
    narrowed_fails all (value sum.constant) sorted count within none

pub loop-node-preserved : goal.loop-node-preserved
loop-node-preserved c =
    let all = c.args.self.now.coefficients.entries in
    let made = c.loop-node.coefficients.entries in
    let P : List (ℕ × Integer) → Type 0 = λ left. IsMaking narrow_step all left made in
    let so_far = subst P c.in-Some.ensures.steps c.loop-node.invariant in
    let w = c.in-Some-narrow.number in
    let same : passed w ≡ w = search (rules, to_z-of_z) in
    let at = sym c.narrow.ensures ∙ c.in-Some-narrow.is ∙ ap Some (sym same) in
    making_goes narrow_step all c.next.new.self made c.in-Some.node.now c.in-Some.coefficient.now so_far c.insert.new.self.entries (passed w) at c.in_ok-insert.ensures.updates.0

pub returns-in-Some-narrow-2 : goal.returns-in-Some-narrow-2
returns-in-Some-narrow-2 c = λ count within.
    let sum = c.args.self.now in
    let made = c.loop-node.coefficients.entries in
    let all = sum.coefficients.entries in
    let sorted = c.into_iter-node-iterator.ensures.into_iter_gives.5 in
    let P : List (ℕ × Integer) → Type 0 = λ left. IsMaking narrow_step all left made in
    let so_far = subst P c.in-None.ensures.steps.0 c.loop-node.invariant in
    let k = c.in-Some-narrow-2.constant in
    let same : passed k ≡ k = search (rules, to_z-of_z) in
    let made_row : ℤ → Row = λ z. record { coefficient = coefficient_at made; constant = z } in
    narrowed_some all (value sum.constant) sorted count made k (sym so_far.goes) (sym c.narrow-2.ensures ∙ c.in-Some-narrow-2.is) ∙ ap (λ z. Some (made_row z)) (sym same) ∙ ap Some (sym c.new.ensures)
