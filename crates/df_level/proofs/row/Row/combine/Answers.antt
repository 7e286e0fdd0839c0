use Rattle.std.proofs.Common.{◌≡◌, ◌∙◌, ℤ, sym, ap, subst, Err, rules}
use Rattle.std.proofs.lemmas.Int.{to_z-of_z}
use Rattle.std.proofs.lemmas.Result.{err_from_is_err_and}
use Rattle.df_row.specs.RowView.{narrow}
use Rattle.df_row.proofs.Rows.{passed, fits_from}
use Rattle.df_level.proofs.Multiples.{sum_narrow}
use Rattle.df_level.specs.Entries.{ascends}
use Rattle.df_level.specs.Exact.{weighted}
use Rattle.df_level.specs.Merge.{IsSum, GivesSum}
use Rattle.df_level.proofs.Combining.{sum_row, fault_row}
use Rattle.df_level.proofs.row.Row.combine.Goals as goal

pub weighted_entries-requires : goal.weighted_entries-requires
weighted_entries-requires c = record { left = ap (ascends 0) c.deref.ensures.value ∙ c.args.self.now.ordered; right = ap (ascends 0) c.deref-2.ensures.value ∙ c.args.other.now.ordered }

pub returns-in_err-coefficients : goal.returns-in_err-coefficients
returns-in_err-coefficients c =
    let f = c.args.factor in
    let g = c.args.other_factor in
    let row = c.args.self.now in
    let other = c.args.other.now in
    let f_passes : passed f ≡ f = search (rules, to_z-of_z) in
    let g_passes : passed g ≡ g = search (rules, to_z-of_z) in
    let p = err_from_is_err_and c.from_residual.result c.from_residual.ensures.1 in
    let fault = c.in_err-coefficients.field-0.0 in
    let P : ℤ → Type 0 = λ x. GivesSum x c.deref.result.now (passed g) c.deref-2.result.now (Err fault) in
    let Q : ℤ → Type 0 = λ x. GivesSum f c.deref.result.now x c.deref-2.result.now (Err fault) in
    let fails : GivesSum f c.deref.result.now g c.deref-2.result.now (Err fault) = subst Q g_passes (subst P f_passes c.in_err-coefficients.ensures) in
    rw (p.1, p.2) (fault_row f row.coefficients.items row.constant g other.coefficients.items other.constant c.deref.result.now c.deref-2.result.now fault fails c.deref.ensures.value c.deref-2.ensures.value)

pub returns : goal.returns
returns c =
    let f = c.args.factor in
    let g = c.args.other_factor in
    let row = c.args.self.now in
    let other = c.args.other.now in
    let sum = c.in_ok-coefficients.coefficients.items in
    let f_passes : passed f ≡ f = search (rules, to_z-of_z) in
    let g_passes : passed g ≡ g = search (rules, to_z-of_z) in
    let own_passes : passed row.constant ≡ row.constant = search (rules, to_z-of_z) in
    let other_passes : passed other.constant ≡ other.constant = search (rules, to_z-of_z) in
    let P : ℤ → Type 0 = λ x. IsSum x c.deref.result.now (passed g) c.deref-2.result.now sum in
    let Q : ℤ → Type 0 = λ x. IsSum f c.deref.result.now x c.deref-2.result.now sum in
    let is_sum : IsSum f c.deref.result.now g c.deref-2.result.now sum = subst Q g_passes (subst P f_passes c.in_ok-coefficients.ensures) in
    let k = c.in-Some.constant in
    let k_passes : passed k ≡ k = search (rules, to_z-of_z) in
    let e : c.weighted_sum.result ≡ narrow (weighted f row.constant g other.constant) =
    c.weighted_sum.ensures
    ∙ ap (λ x. narrow (weighted x (passed row.constant) (passed g) (passed other.constant))) f_passes
    ∙ ap (λ x. narrow (weighted f x (passed g) (passed other.constant))) own_passes
    ∙ ap (λ x. narrow (weighted f row.constant x (passed other.constant))) g_passes
    ∙ ap (λ x. narrow (weighted f row.constant g x)) other_passes
    in
    sum_row f row.coefficients.items row.constant g other.coefficients.items other.constant c.deref.result.now c.deref-2.result.now sum k (passed k) is_sum c.deref.ensures.value c.deref-2.ensures.value (sym e ∙ c.in-Some.is) k_passes

pub invariant_of-result : goal.invariant_of-result
invariant_of-result c =
    let f = c.args.factor in
    let g = c.args.other_factor in
    let sum = c.in_ok-coefficients.coefficients.items in
    let f_passes : passed f ≡ f = search (rules, to_z-of_z) in
    let g_passes : passed g ≡ g = search (rules, to_z-of_z) in
    let P : ℤ → Type 0 = λ x. IsSum x c.deref.result.now (passed g) c.deref-2.result.now sum in
    let Q : ℤ → Type 0 = λ x. IsSum f c.deref.result.now x c.deref-2.result.now sum in
    let is_sum : IsSum f c.deref.result.now g c.deref-2.result.now sum = subst Q g_passes (subst P f_passes c.in_ok-coefficients.ensures) in
    record { ordered = is_sum.ordered; narrow = sum_narrow f g c.deref.result.now c.deref-2.result.now sum is_sum; fitting = search (rules, to_z-of_z, fits_from) }
