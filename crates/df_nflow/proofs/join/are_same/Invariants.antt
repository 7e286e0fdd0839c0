use Rattle.df_nflow.proofs.Words.{◌≡◌, ◌==◌, false, drop, slice_get, list_all, option_map_or}
use Rattle.df_nflow.proofs.join.are_same.Given as goal

-- those that are left decide
abbrev pub invariant-loop-way : goal.invariant-loop-way
invariant-loop-way l = list_all (λ way. option_map_or (λ n. n == l.term) (slice_get way.terms.items l.place) false) (drop l.way-index l.arrived) ≡ list_all (λ way. option_map_or (λ n. n == l.term) (slice_get way.terms.items l.place) false) l.arrived
