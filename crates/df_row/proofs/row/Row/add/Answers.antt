use Rattle.std.proofs.Common.{◌≡◌, ℤ, ◌+ℤ◌, Some, sym, ap, subst, ◌∙◌, rules}
use Rattle.std.proofs.lemmas.Int.{to_z-of_z}
use Rattle.std.proofs.lemmas.Result.{err_from_is_err_and}
use Rattle.df_row.specs.RowView.{row_of, coefficient_at, Fails, narrow}
use Rattle.df_row.proofs.Rows.{passed}
use Rattle.df_row.proofs.RowAdded.{added, not_added}
use Rattle.df_row.proofs.row.Row.add.Goals as goal

pub returns-in_err-sum : goal.returns-in_err-sum
returns-in_err-sum c =
    let row = row_of c.args.self.now in
    let before = c.coefficient.result in
    let more = c.args.coefficient in
    let before_passes : passed before ≡ before = search (rules, to_z-of_z) in
    let more_passes : passed more ≡ more = search (rules, to_z-of_z) in
    let fault = c.in_err-sum.field-0.0 in
    let p = err_from_is_err_and c.from_residual.result c.from_residual.ensures.1 in
    let P : ℤ → Type 0 = λ x. Fails fault (narrow (x +ℤ passed more)) in
    let Q : ℤ → Type 0 = λ x. Fails fault (narrow (row.coefficient c.args.node +ℤ x)) in
    rw (p.1, p.2) (not_added fault c.args.node more row (subst Q more_passes (subst P (before_passes ∙ c.coefficient.ensures) c.in_err-sum.ensures)))

pub returns : goal.returns
returns c =
    let old = c.args.self.now in
    let entries = old.coefficients.entries in
    let before = c.coefficient.result in
    let more = c.args.coefficient in
    let sum = c.in_ok-sum.sum in
    let before_passes : passed before ≡ before = search (rules, to_z-of_z) in
    let more_passes : passed more ≡ more = search (rules, to_z-of_z) in
    let sum_passes : passed sum ≡ sum = search (rules, to_z-of_z) in
    let fitting : narrow (coefficient_at entries c.args.node +ℤ more) ≡ Some (passed sum) =
    ap (λ x. narrow (x +ℤ more)) (sym (before_passes ∙ c.coefficient.ensures)) ∙ ap (λ x. narrow (passed before +ℤ x)) (sym more_passes) ∙ c.in_ok-sum.ensures ∙ ap Some (sym sum_passes) in
    added entries c.insert.new.self.entries old.constant c.args.node more (passed sum) fitting c.in_ok-insert.ensures.updates.0
