use Rattle.df_closure.proofs.Lines.{refuted_is_line}
use Rattle.df_closure.proofs.law.refuted_lists_are_lines.Goals as goal

pub returns : goal.returns
returns c = λ nodes clauses log list numbers are formulas is. refuted_is_line nodes clauses log are list formulas numbers is
