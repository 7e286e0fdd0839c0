use Rattle.std.proofs.Common.{◌≡◌, ◌∙◌, ap, subst, Err, rules}
use Rattle.std.proofs.lemmas.Int.{to_z-of_z}
use Rattle.std.proofs.lemmas.Result.{err_from_is_err_and}
use Rattle.std.specs.Bool.{MatchBool}
use Rattle.df_row.specs.RowView.{IsNarrow}
use Rattle.df_row.proofs.Rows.{passed}
use Rattle.df_level.specs.Row.{function_row, weighted_row, IsWide, GivesRow}
use Rattle.df_level.specs.Way.{multiple_row}
use Rattle.df_level.specs.Levels.{at_multiple, at_other_multiple}
use Rattle.df_level.proofs.Ways.{test_passes, test_fails, by_stops, divisor_stops, sum_by}
use Rattle.df_level.proofs.level.divided_sum.Goals as goal

pub returns-then-not-has_multiple : goal.returns-then-not-has_multiple
returns-then-not-has_multiple c =
    let f = c.args.factor in
    let first = function_row c.args.first.now in
    let h : MatchBool c.has_multiple.result (IsNarrow (multiple_row f first)) (IsWide (multiple_row f first)) = search (rules, to_z-of_z) in
    at_multiple (test_fails _ _ c.has_multiple.result h c.if-not-has_multiple.true)

pub returns-then-not-has_multiple-2 : goal.returns-then-not-has_multiple-2
returns-then-not-has_multiple-2 c =
    let g = c.args.other_factor in
    let second = function_row c.args.second.now in
    let h : MatchBool c.has_multiple-2.result (IsNarrow (multiple_row g second)) (IsWide (multiple_row g second)) = search (rules, to_z-of_z) in
    at_other_multiple (test_fails _ _ c.has_multiple-2.result h c.if-not-has_multiple-2.true)

pub returns-in_err-sum : goal.returns-in_err-sum
returns-in_err-sum c =
    let f = c.args.factor in
    let g = c.args.other_factor in
    let first = function_row c.args.first.now in
    let second = function_row c.args.second.now in
    let p = err_from_is_err_and c.from_residual.result c.from_residual.ensures.1 in
    let fault = c.in_err-sum.field-0.0 in
    let fails : GivesRow (Err fault) (weighted_row f first g second) = search (rules, to_z-of_z) in
    rw (p.1, p.2) (by_stops f first g second fault fails)

pub returns : goal.returns
returns c =
    let f = c.args.factor in
    let g = c.args.other_factor in
    let first = function_row c.args.first.now in
    let second = function_row c.args.second.now in
    let f_passes : passed f ≡ f = search (rules, to_z-of_z) in
    let g_passes : passed g ≡ g = search (rules, to_z-of_z) in
    let h : MatchBool c.has_multiple.result (IsNarrow (multiple_row f first)) (IsWide (multiple_row f first)) = search (rules, to_z-of_z) in
    let k : MatchBool c.has_multiple-2.result (IsNarrow (multiple_row g second)) (IsWide (multiple_row g second)) = search (rules, to_z-of_z) in
    let same = ap (λ y. weighted_row y first (passed g) second) f_passes ∙ ap (λ y. weighted_row f first y second) g_passes in
    let d = c.in_ok-divisor.divisor in
    let d_passes : passed d ≡ d = search (rules, to_z-of_z) in
    sum_by f first g second c.in_ok-row.row (passed f) (passed g) (passed d) c.divisor-content.result (function_row c.in_ok-sum.sum) f_passes g_passes (test_passes _ _ c.has_multiple.result h c.if-not-has_multiple.false) (test_passes _ _ c.has_multiple-2.result k c.if-not-has_multiple-2.false) (subst IsNarrow same c.in_ok-sum.ensures.1) (c.in_ok-sum.ensures.0 ∙ same) c.divisor-content.ensures (d_passes ∙ c.in_ok-divisor.ensures.0) c.in_ok-divisor.ensures.1 c.in_ok-row.ensures

pub returns-in_err-divisor : goal.returns-in_err-divisor
returns-in_err-divisor c =
    let f = c.args.factor in
    let g = c.args.other_factor in
    let first = function_row c.args.first.now in
    let second = function_row c.args.second.now in
    let f_passes : passed f ≡ f = search (rules, to_z-of_z) in
    let g_passes : passed g ≡ g = search (rules, to_z-of_z) in
    let same = ap (λ y. weighted_row y first (passed g) second) f_passes ∙ ap (λ y. weighted_row f first y second) g_passes in
    let p = err_from_is_err_and c.from_residual-in_err-divisor.result c.from_residual-in_err-divisor.ensures.1 in
    rw (p.1, p.2) (divisor_stops f first g second (function_row c.in_ok-sum.sum) c.divisor-content.result c.in_err-divisor.field-0.0 (c.in_ok-sum.ensures.0 ∙ same) c.divisor-content.ensures c.in_err-divisor.ensures)
