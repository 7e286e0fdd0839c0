use Rattle.std.proofs.Common.{◌≡◌, ◌∙◌, ◌*ℤ◌, ap, sym, true, rules}
use Rattle.std.proofs.lemmas.Int.{to_z-of_z}
use Rattle.std.specs.Bool.{MatchBool}
use Rattle.df_row.specs.Row.{fits}
use Rattle.df_row.proofs.Rows.{passed}
use Rattle.df_level.specs.Entries.{HaveMultiples, LackMultiple}
use Rattle.df_level.proofs.Multiples.{row_has_multiple}
use Rattle.df_level.proofs.row.Row.has_multiple.Goals as goal

pub returns : goal.returns
returns c =
    let f = c.args.factor in
    let row = c.args.self.now in
    let f_passes : passed f ≡ f = search (rules, to_z-of_z) in
    let k_passes : passed row.constant ≡ row.constant = search (rules, to_z-of_z) in
    let fitting : fits (f *ℤ row.constant) ≡ true = ap (λ y. fits (y *ℤ row.constant)) (sym f_passes) ∙ ap (λ y. fits (passed f *ℤ y)) (sym k_passes) ∙ sym c.has_product.ensures ∙ c.if-not-has_product.false in
    let tested : MatchBool c.have_multiples.result (HaveMultiples f c.deref.result.now) (LackMultiple f c.deref.result.now) = search (rules, to_z-of_z) in
    row_has_multiple f row.constant row.coefficients.items c.deref.result.now c.have_multiples.result tested c.deref.ensures.value fitting
