use Rattle.df_clause.proofs.Running.{grown_from}
use Rattle.df_model.proofs.SolvedTables.{front_sorted}
use Rattle.df_model.proofs.UndecidedTerms.{undecided}
use Rattle.df_model.proofs.solution.apart_is_undecided.Goals as goal

pub returns : goal.returns
returns c = λ nodes set known numbers table labels left right s begins whole. undecided nodes known numbers labels s set (grown_from set nodes begins) (front_sorted nodes known numbers labels s set begins) table whole left right
