use Rattle.df_nowed.proofs.Words.{◌≡◌, drop, length}
use Rattle.df_nowed.proofs.Knowing.{IsListed}
use Rattle.df_nowed.proofs.listing.list.Given as goal

-- what is known and owed so far goes on with what is left as all does
abbrev pub invariant-loop-said : goal.invariant-loop-said
invariant-loop-said l = record {
  listed : IsListed l.passage.nodes l.said-items l.known.formulas.items l.obligations.items (drop l.said-index l.said-items);
  long : length l.known.places.items ≡ length l.passage.nodes;
}
