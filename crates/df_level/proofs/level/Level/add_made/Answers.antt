use Rattle.std.proofs.Common.{◌≤ℤ◌, ◌<ℤ◌, pos, arith}
use Rattle.std.proofs.lemmas.Int.{ints}
use Rattle.std.proofs.lemmas.Result.{on_ok_weaker}
use Rattle.df_form.specs.Log.{combination_of}
use Rattle.df_level.specs.Row.{function_row}
use Rattle.df_level.specs.Levels.{rows_of, level_rows}
use Rattle.df_level.proofs.Eliminating.{row_kept, extends_skip, made_from_sums, is_below, is_above, is_zero}
use Rattle.df_level.proofs.Ways.{same_comes, row_narrow}
use Rattle.df_level.proofs.level.Level.add_made.Goals as goal

pub returns-then-coefficient-lt0-clause-row : goal.returns-then-coefficient-lt0-clause-row
returns-then-coefficient-lt0-clause-row c =
    let n = c.args.node in
    let first = function_row c.args.first.now in
    let z = c.coefficient-coefficient.result in
    let h : z <ℤ pos 0 = omega (arith, ints) in
    (extends_skip n first (rows_of c.args.rows.now) (level_rows c.args.self.now) (is_below (first.coefficient n) z c.coefficient-coefficient.ensures h), c.requires)

pub returns-then-coefficient-gt0-clause-row : goal.returns-then-coefficient-gt0-clause-row
returns-then-coefficient-gt0-clause-row c =
    let n = c.args.node in
    let first = function_row c.args.first.now in
    let z = c.coefficient-coefficient.result in
    let h : pos 0 <ℤ z = omega (arith, ints) in
    made_from_sums n first (rows_of c.args.rows.now) (level_rows c.args.self.now) (level_rows c.add_sums.new.self) c.add_sums.result (is_above (first.coefficient n) z c.coefficient-coefficient.ensures h) c.add_sums.ensures.row

pub returns-clause-row : goal.returns-clause-row
returns-clause-row c =
    let n = c.args.node in
    let first = function_row c.args.first.now in
    let z = c.coefficient-coefficient.result in
    let h : pos 0 ≤ℤ z = omega (arith, ints) in
    let k : z ≤ℤ pos 0 = omega (arith, ints) in
    row_kept n first (function_row c.in_ok-copy.copy) (rows_of c.args.rows.now) (level_rows c.args.self.now) (level_rows c.add.new.self) c.add.result (is_zero (first.coefficient n) z c.coefficient-coefficient.ensures h k) c.in_ok-copy.ensures c.add.ensures.row

pub returns-clause-way : goal.returns-clause-way
returns-clause-way c = on_ok_weaker c.add.result (λ adds at.
    let rows = rows_of c.args.rows.now in
    let first = c.args.first.now in
    adds rows (same_comes rows c.args.number (function_row first) at (row_narrow first) (combination_of c.in_ok-way.way) (function_row c.in_ok-copy.copy) c.in_ok-way.ensures c.in_ok-copy.ensures))
    c.add.ensures.way
