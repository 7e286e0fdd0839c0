use Rattle.std.proofs.Common.{subst, arith}
use Rattle.std.proofs.lemmas.Int.{ints}
use Rattle.df_level.specs.Row.{function_row}
use Rattle.df_back.specs.BackView.{numbers_of}
use Rattle.df_back.specs.Ranges.{TellsValue}
use Rattle.df_branch.proofs.Unrefuted.{row_is_held}
use Rattle.df_branch.proofs.point.holds.Goals as goal

pub returns-in-Some : goal.returns-in-Some
returns-in-Some c = λ holds count within.
    row_is_held count (numbers_of c.args.numbers.now) (function_row c.args.row.now) c.in-Some.value (subst (TellsValue count (numbers_of c.args.numbers.now) (function_row c.args.row.now)) c.in-Some.is (c.value.ensures count within)) (omega (arith, ints, holds))
