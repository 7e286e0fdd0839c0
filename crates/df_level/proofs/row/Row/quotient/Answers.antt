use Rattle.std.proofs.Common.{◌≡◌, ◌∙◌, ap, pos, map, rules}
use Rattle.std.proofs.lemmas.Int.{to_z-of_z}
use Rattle.df_row.proofs.Rows.{passed, fits_from}
use Rattle.df_row.specs.Linear.{quotient}
use Rattle.df_level.specs.Division.{quotient_entry}
use Rattle.df_level.proofs.Contents.{quotient_ordered, quotient_of_row}
use Rattle.df_level.proofs.Multiples.{quotients_narrow}
use Rattle.df_level.proofs.row.Row.quotient.Goals as goal

pub invariant_of-result : goal.invariant_of-result
invariant_of-result c =
    let row = c.args.self.now in
    let d = c.args.divisor in
    let es = row.coefficients.items in
    let is = c.in_ok-coefficients.ensures ∙ ap (map (quotient_entry d)) c.deref.ensures.value in
    record { ordered = quotient_ordered d es c.in_ok-coefficients.coefficients.items row.constant c.requires row.ordered is; narrow = quotients_narrow d es c.in_ok-coefficients.coefficients.items is row.narrow; fitting = search (rules, to_z-of_z, fits_from) }

pub returns : goal.returns
returns c =
    let row = c.args.self.now in
    let d = c.args.divisor in
    let k = c.floor_quotient-constant.result in
    let is = c.in_ok-coefficients.ensures ∙ ap (map (quotient_entry d)) c.deref.ensures.value in
    let rounds : passed k ≡ quotient row.constant (pos d) = search (rules, to_z-of_z) in
    quotient_of_row d row.coefficients.items c.in_ok-coefficients.coefficients.items row.constant (passed k) is rounds
