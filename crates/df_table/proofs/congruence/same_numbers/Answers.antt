use Rattle.std.proofs.Common.{◌==◌, length, sym, ◌∙◌, arith}
use Rattle.std.proofs.lemmas.Bool.{and_right}
use Rattle.df_table.specs.Testing.{all_below, same_at}
use Rattle.df_table.proofs.Below.{below_fails}
use Rattle.df_table.proofs.congruence.same_numbers.Goals as goal

pub returns-then-not-is_same_number : goal.returns-then-not-is_same_number
returns-then-not-is_same_number c =
    let xs = c.args.xs.now in
    let ys = c.args.ys.now in
    let test = same_at c.args.table.now xs ys in
    sym (and_right (length xs == length ys) (all_below test (length xs)) (below_fails test c.loop-i.i (length xs) (omega arith) (sym c.is_same_number.ensures ∙ c.if-not-is_same_number.true)))
