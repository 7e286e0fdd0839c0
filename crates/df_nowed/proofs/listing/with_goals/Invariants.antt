use Rattle.df_nowed.proofs.Words.{◌≡◌, map, take, with_goal}
use Rattle.df_nowed.proofs.listing.with_goals.Given as goal

abbrev pub invariant-loop-obligation : goal.invariant-loop-obligation
invariant-loop-obligation l = record {
  same : l.all.items ≡ map (with_goal l.known) (take l.obligation-index l.obligations);
}
