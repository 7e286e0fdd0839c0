use Rattle.std.proofs.Common.{◌≡◌, sym, ◌∙◌, ap, subst, refl, ℕ, ◌+◌, ◌<◌, ◌≤◌, ℤ, pos, List, map, length, get_or, slice_get, Some, None, rules}
use Rattle.std.specs.Option.{option_map}
use Rattle.std.proofs.lemmas.Int.{to_z-of_z}
use Rattle.std.proofs.lemmas.Option.{slice_get-map, slice_get_read, slice_get_past}
use Rattle.std.proofs.lemmas.Result.{err_from_is_err_and}
use Rattle.df_form.specs.declared.log.Multiple.{Multiple}
use Rattle.df_form.specs.Log.{combination_of}
use Rattle.df_row.specs.declared.row.Row.{Row}
use Rattle.df_row.specs.declared.row.RowFault.TheVariants as faults
use Rattle.df_row.specs.Row.{constant_row}
use Rattle.df_row.specs.RowView.{row_of, Fails}
use Rattle.df_row.specs.Linear.{with_multiple, sum_from}
use Rattle.df_row.proofs.Rows.{passed}
use Rattle.df_row.proofs.LinearSums.{IsCombining, no_multiple, combining_starts, no_row, combining_fails, combining_goes, combined_fails}
use Rattle.df_row.proofs.linear.combine.Goals as goal

row_there : (rows : List Row) (k : ℕ) (row : Row) → k < length rows → row ≡ get_or rows k row → slice_get (map row_of rows) k ≡ Some (row_of row)
row_there rows k row less e = slice_get-map row_of rows k ∙ ap (option_map row_of) (slice_get_read rows (length rows) k row refl less e)

row_past : (rows : List Row) (k : ℕ) → length rows ≤ k → slice_get (map row_of rows) k ≡ None
row_past rows k past = slice_get-map row_of rows k ∙ ap (option_map row_of) (slice_get_past rows k past)

pub loop-multiple-init : goal.loop-multiple-init
loop-multiple-init c = λ count inside. combining_starts count (map row_of c.args.rows.now) c.args.combination.now.members.items (row_of c.of_constant-sum.result) c.of_constant-sum.ensures

pub returns-in_default : goal.returns-in_default
returns-in_default c = λ count inside.
    let rows = map row_of c.args.rows.now in
    let all = c.deref-multiple-items.result.now in
    let i = c.loop-multiple.multiple-index in
    let sum = row_of c.loop-multiple.sum in
    let P : List Multiple → Type 0 = λ x. IsCombining count rows x i sum in
    let so_far = subst P (sym c.deref-multiple-items.ensures.value) (c.loop-multiple.invariant count inside) in
    let m = get_or all i no_multiple in
    let none = no_row count rows all i sum c.loop-multiple-test.true so_far (row_past c.args.rows.now m.row c.in_default.ensures.lookup.3) in
    combined_fails count rows (combination_of c.args.combination.now) faults.Refused (ap (sum_from count rows (constant_row (pos 0))) (sym c.deref-multiple-items.ensures.value) ∙ none)

pub returns-in_err-add_multiple : goal.returns-in_err-add_multiple
returns-in_err-add_multiple c = λ count inside.
    let rows = map row_of c.args.rows.now in
    let all = c.deref-multiple-items.result.now in
    let i = c.loop-multiple.multiple-index in
    let sum = row_of c.loop-multiple.sum in
    let P : List Multiple → Type 0 = λ x. IsCombining count rows x i sum in
    let so_far = subst P (sym c.deref-multiple-items.ensures.value) (c.loop-multiple.invariant count inside) in
    let m = get_or all i no_multiple in
    let other = row_of c.in-Some.row.now in
    let at = row_there c.args.rows.now m.row c.in-Some.row.now c.in-Some.ensures.lookup.3.0 c.in-Some.ensures.lookup.1 in
    let same : passed m.factor ≡ m.factor = search (rules, to_z-of_z) in
    let fault = c.in_err-add_multiple.field-0.0 in
    let Q : ℤ → Type 0 = λ f. Fails fault (with_multiple count sum f (Some other)) in
    let stops = subst Q same (c.in_err-add_multiple.ensures count so_far.small (inside.each m.row other at)) in
    let R : List Multiple → Type 0 = λ x. Fails fault (sum_from count rows (constant_row (pos 0)) x) in
    let none = subst R c.deref-multiple-items.ensures.value (combining_fails count rows all i sum c.loop-multiple-test.true so_far other at fault stops) in
    let p = err_from_is_err_and c.from_residual.result c.from_residual.ensures.1 in
    rw (p.1, p.2) (combined_fails count rows (combination_of c.args.combination.now) fault none)

pub loop-multiple-preserved : goal.loop-multiple-preserved
loop-multiple-preserved c = λ count inside.
    let rows = map row_of c.args.rows.now in
    let all = c.deref-multiple-items.result.now in
    let i = c.loop-multiple.multiple-index in
    let sum = row_of c.loop-multiple.sum in
    let new = row_of c.add_multiple.new.self in
    let P : List Multiple → Type 0 = λ x. IsCombining count rows x i sum in
    let so_far = subst P (sym c.deref-multiple-items.ensures.value) (c.loop-multiple.invariant count inside) in
    let m = get_or all i no_multiple in
    let other = row_of c.in-Some.row.now in
    let at = row_there c.args.rows.now m.row c.in-Some.row.now c.in-Some.ensures.lookup.3.0 c.in-Some.ensures.lookup.1 in
    let same : passed m.factor ≡ m.factor = search (rules, to_z-of_z) in
    let within = inside.each m.row other at in
    let e : with_multiple count sum m.factor (Some other) ≡ Some new = ap (λ f. with_multiple count sum f (Some other)) (sym same) ∙ c.in_ok-add_multiple.ensures count so_far.small within in
    let R : List Multiple → Type 0 = λ x. IsCombining count rows x (i + 1) new in
    subst R c.deref-multiple-items.ensures.value (combining_goes count rows all i sum c.loop-multiple-test.true so_far other at new within e)
