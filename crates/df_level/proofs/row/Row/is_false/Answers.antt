use Rattle.std.proofs.Common.{length, ap, rules}
use Rattle.df_level.proofs.Falsehood.{not_empty}
use Rattle.df_level.proofs.row.Row.is_false.Goals as goal

pub returns-then-not-is_empty : goal.returns-then-not-is_empty
returns-then-not-is_empty c =
    let row = c.args.self.now in
    not_empty row.coefficients.items row.constant row.ordered (λ e. let none = ap length e in search rules)
