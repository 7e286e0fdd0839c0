use Rattle.df_model.proofs.Models.{valuation_is_model}
use Rattle.df_model.proofs.law.valuations_are_models.Goals as goal

pub returns : goal.returns
returns c = λ s g depth assignment is has. valuation_is_model s g depth assignment is has
