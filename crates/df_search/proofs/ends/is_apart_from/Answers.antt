use Rattle.std.proofs.Common.{refl, subst}
use Rattle.df_search.specs.Searching.{AreApart}
use Rattle.df_search.proofs.Apart.{rest_goes}
use Rattle.df_search.proofs.ends.is_apart_from.Goals as goal

pub loop-other-preserved : goal.loop-other-preserved
loop-other-preserved c = rest_goes c.args.branch.now c.loop-other.other-index c.other-item.result c.args.others.now c.loop-other-test.true c.other-item.is (subst (AreApart c.args.branch.now) c.deref.ensures.value (c.if-not-is_apart.ensures refl)) c.loop-other.invariant
