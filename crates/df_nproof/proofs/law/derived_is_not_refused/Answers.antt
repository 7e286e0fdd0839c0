use Rattle.df_nproof.proofs.Refusals.{derived_is_not_refused}
use Rattle.df_nproof.proofs.law.derived_is_not_refused.Goals as goal

pub returns : goal.returns
returns c = derived_is_not_refused c.one_node_for_a_tree.ensures c.logs_derive_or_are_refused.ensures
