use Rattle.std.proofs.Common.{◌≡◌, ◌≤ℤ◌, pos, rules, arith}
use Rattle.std.proofs.lemmas.Int.{ints, to_z-of_z}
use Rattle.std.proofs.lemmas.Result.{on_ok_weaker, err_from_is_err_and}
use Rattle.df_row.proofs.Rows.{passed}
use Rattle.df_form.specs.Log.{combination_of}
use Rattle.df_level.specs.Row.{function_row}
use Rattle.df_level.specs.Levels.{level_rows}
use Rattle.df_level.proofs.Eliminating.{sum_added, sum_skipped, sum_stops, not_below}
use Rattle.df_level.proofs.Ways.{comes_by}
use Rattle.df_level.proofs.level.Level.add_sum.Goals as goal

pub returns-then-coefficient-ge0-clause-row : goal.returns-then-coefficient-ge0-clause-row
returns-then-coefficient-ge0-clause-row c =
    let n = c.args.node in
    let second = function_row c.args.second.now in
    let z = c.coefficient.result in
    let h : pos 0 ≤ℤ z = omega (arith, ints) in
    (sum_skipped n (function_row c.args.first.now) second (level_rows c.args.self.now) (not_below (second.coefficient n) z c.coefficient.ensures h), c.requires.few)

pub returns-in_err-sum-clause-row : goal.returns-in_err-sum-clause-row
returns-in_err-sum-clause-row c =
    let p = err_from_is_err_and c.from_residual.result c.from_residual.ensures.1 in
    rw p.1 (sum_stops c.args.node (function_row c.args.first.now) (function_row c.args.second.now) (level_rows c.args.self.now) (level_rows c.args.self.now) c.in_err-sum.field-0.0 p.0 p.2 c.in_err-sum.ensures)

pub returns-clause-row : goal.returns-clause-row
returns-clause-row c = sum_added c.args.node (function_row c.args.first.now) (function_row c.args.second.now) (function_row c.in_ok-sum.sum.row) (level_rows c.args.self.now) (level_rows c.add.new.self) c.add.result c.in_ok-sum.ensures.cancelled c.in_ok-sum.ensures.fits_all c.add.ensures.row

pub returns-clause-way : goal.returns-clause-way
returns-clause-way c = on_ok_weaker c.add.result (λ adds before at other.
    let sum = c.in_ok-sum.sum in
    let f_passes : passed sum.factor ≡ sum.factor = search (rules, to_z-of_z) in
    let g_passes : passed sum.other_factor ≡ sum.other_factor = search (rules, to_z-of_z) in
    let d_passes : passed sum.divisor ≡ sum.divisor = search (rules, to_z-of_z) in
    adds before (comes_by before (combination_of c.in_ok-way.way) sum c.args.number c.args.other (passed sum.factor) (passed sum.other_factor) (passed sum.divisor) f_passes g_passes d_passes c.in_ok-way.ensures (c.in_ok-sum.ensures.comes before c.args.number c.args.other at other)))
    c.add.ensures.way
