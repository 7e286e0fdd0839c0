use Rattle.std.proofs.Common.{◌≡◌, map, take}
use Rattle.df_search.specs.Places.{place_in}
use Rattle.df_search.proofs.searching.State.placed.Given as goal

abbrev pub invariant-loop-number : goal.invariant-loop-number
invariant-loop-number l = l.placed.items ≡ map (place_in l.self.places.items) (take l.number-index l.numbers)
