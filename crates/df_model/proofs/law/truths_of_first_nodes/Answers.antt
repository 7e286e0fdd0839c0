use Rattle.df_model.proofs.FirstNodes.{same_truth_of_first, same_number_of_first}
use Rattle.df_model.proofs.law.truths_of_first_nodes.Goals as goal

pub returns-clause-truths : goal.returns-clause-truths
returns-clause-truths c = same_truth_of_first

pub returns-clause-numbers : goal.returns-clause-numbers
returns-clause-numbers c = same_number_of_first
