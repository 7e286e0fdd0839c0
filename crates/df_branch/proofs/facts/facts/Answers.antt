use Rattle.std.proofs.Common.{◌++◌, ◌∙◌, sym, ap}
use Rattle.df_branch.proofs.Lists.{after_is}
use Rattle.df_branch.proofs.facts.facts.Goals as goal

pub returns : goal.returns
returns c = c.in_ok-extend_from_slice.ensures.items ∙ ap (λ r. r ++ c.args.list.now) c.in_ok-facts.ensures ∙ sym (after_is c.args.list.now c.args.learned.now)
