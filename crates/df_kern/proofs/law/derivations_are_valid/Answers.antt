use Rattle.df_rules.proofs.Sound.{derivation_is_valid}
use Rattle.df_kern.proofs.law.derivations_are_valid.Goals as goal

pub returns : goal.returns
returns c = λ s log is derives. derivation_is_valid s is log derives
