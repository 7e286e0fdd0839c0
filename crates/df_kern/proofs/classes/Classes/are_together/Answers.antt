use Rattle.std.proofs.Common.{nat_eq, ap, ◌∙◌}
use Rattle.df_kern.proofs.classes.Classes.are_together.Goals as goal

pub returns-clause-together : goal.returns-clause-together
returns-clause-together c = λ i. nat_eq (c.in_ok-first.ensures.least i) ((c.in_ok-second.ensures.least ∙ ap (λ f. f c.args.b) c.in_ok-first.ensures.same) i)
