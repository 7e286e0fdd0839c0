use Rattle.std.proofs.Common.{rules}
use Rattle.std.proofs.lemmas.Fn.{filter_same}
use Rattle.df_nghost.proofs.join.keep.Goals as goal

pub returns : goal.returns
returns c = filter_same _ _ _ (λ local b f' k. search rules) _ _ c.retain.ensures.filtered
