use Rattle.std.proofs.Common.{◌==◌, ℕ, ap, map, ◌∙◌}
use Rattle.df_report.specs.View.{outcome_of}
use Rattle.df_ntop.proofs.Counting.{none_unproved}
use Rattle.df_ntop.proofs.proving.all_verified.Goals as goal

pub returns : goal.returns
returns c = ap (λ (n : ℕ). n == 0) c.unproved.ensures ∙ none_unproved (map outcome_of c.args.outcomes.now)
