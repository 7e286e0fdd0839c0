use Rattle.df_meaning2.proofs.StmtTypes.{any_stmt_typed}
use Rattle.df_meaning2.proofs.statements_are_typed.Goals as goal

pub returns : goal.returns
returns c = λ m acts types g s stmt same within h is. any_stmt_typed m acts types g s stmt same within h is
