use Rattle.std.proofs.Common.{◌∙◌}
use Rattle.std.specs.List.{list_any}
use Rattle.df_rules.specs.CongruenceLine.{are_different, number_at}
use Rattle.df_rules.proofs.Results.{if_ok}
use Rattle.df_kern.proofs.number.has_two_numbers.Goals as goal

pub returns : goal.returns
returns c =
    if_ok c.has_other_number.result _ _ c.has_other_number.ensures.other
    (λ yes e. e ∙ (λ j. list_any (λ n. are_different (number_at c.args.nodes.now n) (c.in_ok-numbers.ensures.numbers (c.in_ok-numbers.ensures.same j n) j)) c.args.members.now))
