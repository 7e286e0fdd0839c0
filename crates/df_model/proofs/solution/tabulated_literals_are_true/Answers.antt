use Rattle.df_clause.proofs.Running.{grown_from}
use Rattle.df_model.proofs.SolvedTables.{front_sorted, solved_first}
use Rattle.df_model.proofs.solution.tabulated_literals_are_true.Goals as goal

pub returns : goal.returns
returns c = λ nodes set known numbers table labels s begins whole. solved_first nodes known numbers labels s set (grown_from set nodes begins) (front_sorted nodes known numbers labels s set begins) table whole
