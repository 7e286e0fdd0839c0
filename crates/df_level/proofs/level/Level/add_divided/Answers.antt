use Rattle.std.proofs.Common.{◌≡◌, ◌∙◌, rules}
use Rattle.std.proofs.lemmas.Int.{to_z-of_z}
use Rattle.std.proofs.lemmas.Result.{on_ok_weaker, err_from_is_err_and}
use Rattle.df_row.proofs.Rows.{passed}
use Rattle.df_form.specs.Log.{combination_of}
use Rattle.df_level.specs.Row.{function_row}
use Rattle.df_level.specs.Levels.{level_rows}
use Rattle.df_level.proofs.Ways.{quotient_comes, row_narrow, divisor_fails, quotient_added}
use Rattle.df_level.proofs.level.Level.add_divided.Goals as goal

pub returns-in_err-divisor-clause-row : goal.returns-in_err-divisor-clause-row
returns-in_err-divisor-clause-row c =
    let p = err_from_is_err_and c.from_residual.result c.from_residual.ensures.1 in
    rw p.1 (divisor_fails (function_row c.args.row.now) c.divisor-content.result (level_rows c.args.self.now) (level_rows c.args.self.now) c.in_err-divisor.field-0.0 p.0 p.2 c.divisor-content.ensures c.in_err-divisor.ensures)

pub returns-clause-row : goal.returns-clause-row
returns-clause-row c =
    quotient_added (function_row c.args.row.now) (function_row c.in_ok-quotient.quotient) c.divisor-content.result (level_rows c.args.self.now) (level_rows c.add.new.self) c.add.result c.divisor-content.ensures c.in_ok-divisor.ensures.1 c.in_ok-quotient.ensures c.add.ensures.row

pub returns-clause-way : goal.returns-clause-way
returns-clause-way c = on_ok_weaker c.add.result (λ adds before at.
    let row = c.args.row.now in
    let d = c.in_ok-divisor.divisor in
    let d_passes : passed d ≡ d = search (rules, to_z-of_z) in
    adds before (quotient_comes before c.args.number (function_row row) at (row_narrow row) c.divisor-content.result (passed d) (combination_of c.in_ok-way.way) (function_row c.in_ok-quotient.quotient) c.divisor-content.ensures (d_passes ∙ c.in_ok-divisor.ensures.0) c.in_ok-way.ensures c.in_ok-quotient.ensures))
    c.add.ensures.way
