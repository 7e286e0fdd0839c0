use Rattle.std.proofs.Common.{subst, sym}
use Rattle.std.proofs.lemmas.Result.{IfOk-weaker}
use Rattle.df_rules.specs.Known.{knows}
use Rattle.df_trail.specs.Trail.{HasAll}
use Rattle.df_search.proofs.Needs.{filter_held}
use Rattle.df_search.proofs.needing.needed.Goals as goal

pub returns : goal.returns
returns c = IfOk-weaker c.held.result _ _ (λ held is. subst (HasAll c.args.list.now) (sym is) (filter_held (knows c.in_ok-set.set) c.args.list.now)) c.held.ensures
