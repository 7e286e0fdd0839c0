use Rattle.std.proofs.Common.{sym, ◌∙◌}
use Rattle.df_ntree.specs.Expr.{expr_of}
use Rattle.df_nenv.proofs.Foreseen.{open_foreseen}
use Rattle.df_nenv.proofs.outlook.value_type.Goals as goal

pub returns-in-Open : goal.returns-in-Open
returns-in-Open c = open_foreseen c.args.env.now (expr_of c.args.e.now) (sym c.in-Open.is ∙ c.foresee.ensures)
