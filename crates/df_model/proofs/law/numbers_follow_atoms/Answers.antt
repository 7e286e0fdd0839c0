use Rattle.df_model.proofs.Atoms.{number_follows, truth_follows}
use Rattle.df_model.proofs.law.numbers_follow_atoms.Goals as goal

pub returns-clause-numbers : goal.returns-clause-numbers
returns-clause-numbers c = λ nodes x p depth world n free. number_follows x p depth world nodes n free

pub returns-clause-truths : goal.returns-clause-truths
returns-clause-truths c = λ nodes x p depth world n free. truth_follows x p depth world nodes n free
