use Rattle.df_closure.proofs.Lines.{closed_is_line}
use Rattle.df_closure.proofs.law.closed_lists_are_lines.Goals as goal

pub returns : goal.returns
returns c = λ nodes clauses log list reasons learned last clause are formulas is there empty. closed_is_line nodes clauses log are list formulas reasons learned last clause is there empty
