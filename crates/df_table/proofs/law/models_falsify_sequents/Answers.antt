use Rattle.df_table.proofs.Falsifying.{hypotheses_true, goal_false}
use Rattle.df_table.proofs.law.models_falsify_sequents.Goals as goal

pub returns-clause-hypotheses : goal.returns-clause-hypotheses
returns-clause-hypotheses c = hypotheses_true

pub returns-clause-goal : goal.returns-clause-goal
returns-clause-goal c = goal_false
