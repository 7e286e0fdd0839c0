-- What is said at the end of a method, where its ways out come together.
use Rattle.df_nflow.proofs.Words.{◌≡◌, Bool, true, false, List, [], ◌++◌, map, Option, sym, ap, ◌∙◌, subst, append_assoc, map-append, all_joined, Clause, Changed, Said, Way, Joined, paths_of, any_path, join, Flow, ways_of, also_returns, at_end, owed_at, ended_over, Standing, also, way_if, Passes, Joins, Kept, back, Arrival, arrival, IsSortedWay, AreSortedWays, Arrive}

pub in_order : (a b c d : List Said) → ((a ++ b) ++ c) ++ d ≡ a ++ (b ++ (c ++ d))
in_order a b c d = simp append_assoc

module _ (changed : List Changed) where
  sorted_if : (on : Bool) (way : Way) → IsSortedWay changed way → AreSortedWays changed (ways_of (way_if on way))
  sorted_if true way sorted = (sorted, tt)
  sorted_if false way sorted = tt

  -- and one way more, where runs go on to it
  arrive_more : (on : Bool) (way : Way) (arrivals : List Arrival) (ways : List Way) → Arrive changed arrivals ways → IsSortedWay changed way
      → Arrive changed (arrivals ++ map (arrival changed) (ways_of (way_if on way))) (ways ++ ways_of (way_if on way))
  arrive_more on way arrivals ways h sorted = record {
    are = ap (λ (waiting : List Arrival). waiting ++ map (arrival changed) (ways_of (way_if on way))) h.are ∙ sym (map-append (arrival changed) ways (ways_of (way_if on way)));
    sorted = all_joined (IsSortedWay changed) ways (ways_of (way_if on way)) h.sorted (sorted_if on way sorted);
  }

  pub arrive_left : (on : Bool) (here left : Standing) (ways : List Way) → left ≡ also_returns (map (arrival changed) (ways_of (way_if on here.way))) here → Arrive changed here.returns ways → IsSortedWay changed here.way
      → Arrive changed left.returns (ways ++ ways_of (way_if on here.way))
  arrive_left on here left ways e h sorted = subst (λ (s : Standing). Arrive changed s.returns (ways ++ ways_of (way_if on here.way))) (sym e) (arrive_more on here.way here.returns ways h sorted)

  -- these ways come together at the end
  abbrev pub JoinAt : Standing → Standing → Bool → Type 0
  JoinAt s joined goes = (ways : List Way) → Arrive changed s.returns ways → Joins (at_end s) (join (any_path (paths_of ways)) (at_end s).way.env changed ways s.fresh) joined goes

  module _ (clauses : List Clause) (start here left joined last : Standing) (flow : Flow) (on lost goes : Bool) where
    pub ended_said : Passes [] changed start flow here on lost → start.trail ≡ [] → start.returns ≡ [] → IsSortedWay changed here.way → left ≡ also_returns (map (arrival changed) (ways_of (way_if on here.way))) here
        → JoinAt left joined goes → last ≡ also (owed_at clauses (way_if goes joined.way)) joined → last.said ≡ start.said ++ (flow.said ++ ended_over start.way.env changed clauses flow)
    ended_said p no_trail no_returns sorted e joins owed =
        let ways = flow.returns ++ ways_of flow.way in
        let returns : here.returns ≡ map (arrival changed) flow.returns = p.returns ∙ ap (λ (waiting : List Arrival). waiting ++ map (arrival changed) flow.returns) no_returns in
        let arrive : Arrive changed (here.returns ++ map (arrival changed) (ways_of (way_if on here.way))) ways =
        subst (λ (o : Option Way). Arrive changed (here.returns ++ map (arrival changed) (ways_of (way_if on here.way))) (flow.returns ++ ways_of o)) (sym p.way)
        (arrive_more on here.way here.returns flow.returns (record { are = returns; sorted = p.sorted_returns }) sorted) in
        let env : back here.trail here.way.env ≡ start.way.env = ap (λ (ks : List Kept). back ks here.way.env) (p.trail ∙ ap (λ (ks : List Kept). ks ++ p.kept) no_trail) ∙ p.back in
        let all = join (any_path (paths_of ways)) start.way.env changed ways flow.fresh in
        let both = subst (λ (s : Standing). JoinAt s joined goes) e joins in
        let q : Joins (at_end here) all joined goes = subst (λ (j : Joined). Joins (at_end here) j joined goes) (λ i. join (any_path (paths_of ways)) (env i) changed ways (p.fresh i)) (both ways arrive) in
        ap (λ (s : Standing). s.said) owed ∙ (λ i. (q.said i) ++ owed_at clauses (sym q.way i)) ∙ ap (λ (said : List Said). (said ++ all.said) ++ owed_at clauses all.way) p.said
        ∙ in_order start.said flow.said all.said (owed_at clauses all.way)
