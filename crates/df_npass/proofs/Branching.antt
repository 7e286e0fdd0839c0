-- Branches, and what goes on where they come together.
use Rattle.df_npass.proofs.Words.{all_joined, ◌≡◌, inl, ℕ, Bool, true, false, if◌then◌else◌, List, ◌++◌, Option, sym, ap, ◌∙◌, subst, Ty, Assigned, has_value, meet, Flowing, Outcome, Handed, State, Changed, is_changed, are_there, Term, Interpretation, SameBelow, Said, Way, paths_of, any_path, join_branches, Flow, Parted, ways_of, last_of, first_of, path_behind, rejoined, choice, or_left, or_right}
use Rattle.df_meaning.specs.Meaning as flows
use Rattle.df_npass.proofs.Runs.{path_true, Mode, Moves, moves_here, moves_then, same_itself, same_then, Play, play_behind, play_later, PathBelow, EnvBelow, env_grows, JoinGoing, branches_going, AllStay, Flows, Parts, behind_reaches, SortedAll, AllOff, OneSits, off_moves, path_same, sorted_moves, Many, branches_join_then, no_path, one_path, branches_off_said, branches_off_way, hand, Comes, Onward, Off, both_off, comes_left, comes_right, leads_off}

-- ---- a branch and those after it

module _ (B : Type 0) (all : List Ty) (back : Assigned) (mode : Mode) (i : Interpretation) (n : ℕ) (first_path other_path : Option Term) (flow : Flow) (others : Parted) (one two : Flowing) (asked : List Said) (more : List Said) (go : flows.Flow → Outcome B)
    (flows_first : Flows n first_path flow) (parts : Parts flow.fresh other_path others) (first_is : PathBelow n first_path) (other_is : PathBelow n other_path)
    (h : Onward B all back mode i n (first_of asked flow (λ fresh. others)) (meet one.behind two.behind) (meet one.breaks two.breaks) more go) where
  abbrev all_said : List Said
  all_said = asked ++ (flow.said ++ others.said)

  others_off : (j : Interpretation) → SameBelow n i j → path_true i other_path ≡ false → Off j others
  others_off j same off = leads_off j flow.fresh other_path others parts (sym (path_same n i j same other_path other_is) ∙ off)

  first_off : (j : Interpretation) → SameBelow n i j → path_true i first_path ≡ false → Off j (last_of flow)
  first_off j same off = leads_off j n first_path (last_of flow) flows_first (sym (path_same n i j same first_path first_is) ∙ off)

  -- the branch is taken
  pub taken_onward : path_true i other_path ≡ false → Onward B all back mode i n (last_of flow) one.behind one.breaks (others.said ++ more) go
  taken_onward off = record {
    on = λ k j f moves comes. play_behind B k j flow.fresh others.said more (λ handed. go (hand f handed))
        (λ u same. parts.made.said.off u (sym (path_same n i u (same_then n flow.fresh i j u flows_first.made.grows moves.same same) other_path other_is) ∙ off))
        (play_later B k j flow.fresh others.fresh more (λ handed. go (hand f handed)) parts.made.grows
        (h.on k j f moves (comes_left k j all back all_said others.fresh (last_of flow) others one.behind two.behind one.breaks two.breaks f comes (others_off j moves.same off))));
    over = λ j same ways breaks returns loses.
        let away = both_off j all_said others.fresh (last_of flow) others (record { ways = ways; breaks = breaks; returns = returns }) (others_off j same off) in
        all_joined _ others.said more (parts.made.said.off j (sym (path_same n i j same other_path other_is) ∙ off)) (h.over j same away.ways away.breaks away.returns (or_left flow.loses others.loses loses));
  }

  -- or one after it
  passed_onward : path_true i first_path ≡ false → Onward B all back mode i flow.fresh others two.behind two.breaks more go
  passed_onward off = record {
    on = λ k j f moved comes.
        let moves = moves_then mode mode k i i j n flow.fresh flows_first.made.grows (moves_here mode i n) moved in
        h.on k j f moves (comes_right k j all back all_said others.fresh (last_of flow) others one.behind two.behind one.breaks two.breaks f (first_off j moves.same off) comes);
    over = λ j same ways breaks returns loses.
        let all_same = same_then n flow.fresh i i j flows_first.made.grows (same_itself n i) same in
        let away = both_off j all_said others.fresh (last_of flow) others (first_off j all_same off) (record { ways = ways; breaks = breaks; returns = returns }) in
        h.over j all_same away.ways away.breaks away.returns (or_right flow.loses others.loses loses);
  }

  pub passed_play : (start : Mode) (run : List Handed → Outcome B) → path_true i first_path ≡ false → (Onward B all back mode i flow.fresh others two.behind two.breaks more go → Play B start i flow.fresh (others.said ++ more) run) → Play B start i n (flow.said ++ (others.said ++ more)) run
  passed_play start run off play =
      play_behind B start i n flow.said (others.said ++ more) run (λ j same. flows_first.made.said.off j (sym (path_same n i j same first_path first_is) ∙ off))
      (play_later B start i n flow.fresh (others.said ++ more) run flows_first.made.grows (play (passed_onward off)))

-- ---- the ways of the branches come together

module _ (B : Type 0) (all : List Ty) (back : Assigned) (mode : Mode) (i : Interpretation) (n : ℕ) (way : Way) (parted : Parted) (changed : List Changed) (behind carried : Assigned) (more : List Said) (go : flows.Flow → Outcome B)
    (parts : Parts n way.path parted) (env : EnvBelow n way.env) (path : PathBelow n way.path) (here : path_true i way.path ≡ true) (sorted : SortedAll i all way.env) (there : are_there all changed ≡ true)
    (cover : Many parted.ways → (k : ℕ) → has_value behind k ≡ true → is_changed changed k ≡ false → AllStay k way.env parted.ways)
    (h : Onward B all back mode i n (last_of (rejoined changed way parted)) behind carried more go) where
  abbrev after_path : Option Term
  after_path = path_behind way parted

  going : JoinGoing parted.fresh way.path (join_branches after_path way.env changed parted.ways parted.fresh)
  going = branches_going after_path way.env changed parted.ways parted.fresh way.path (env_grows n parted.fresh way.env parts.made.grows env) parts.ways (behind_reaches n way parted path parts)

  comes_there : (k : Mode) (j : Interpretation) (t : State) → SameBelow n i j → OneSits k j all parted.ways behind t → path_true j after_path ≡ true
  comes_there k j t same one =
      choice (λ (o : Option Term). path_true j o ≡ true) parted.loses (any_path (paths_of parted.ways)) way.path (one_path k j all parted.ways behind t one) (sym (path_same n i j same way.path path) ∙ here)

  none_there : (j : Interpretation) → AllOff j parted.ways → parted.loses ≡ true → path_true j after_path ≡ false
  none_there j off loses = ap (λ (b : Bool). path_true j (if b then any_path (paths_of parted.ways) else way.path)) loses ∙ no_path j parted.ways off

  left : (k : Mode) (j : Interpretation) (f : flows.Flow) → AllOff j parted.ways → Play B k j (join_branches after_path way.env changed parted.ways parted.fresh).fresh more (λ handed. go (hand f handed))
      → Play B k j parted.fresh ((join_branches after_path way.env changed parted.ways parted.fresh).said ++ more) (λ handed. go (hand f handed))
  left k j f off p =
      let joined = join_branches after_path way.env changed parted.ways parted.fresh in
      play_behind B k j parted.fresh joined.said more (λ handed. go (hand f handed)) (λ u same. branches_off_said u after_path way.env changed parted.ways parted.fresh (off_moves j u parted.fresh way.path parted.ways parts.ways same off))
      (play_later B k j parted.fresh joined.fresh more (λ handed. go (hand f handed)) going.made.grows p)

  pub rejoin_onward : Onward B all back mode i n parted behind carried ((join_branches after_path way.env changed parted.ways parted.fresh).said ++ more) go
  rejoin_onward = record {
    on = by_flow;
    over = λ j same ways breaks returns loses. all_joined _ (join_branches after_path way.env changed parted.ways parted.fresh).said more (branches_off_said j after_path way.env changed parted.ways parted.fresh ways)
        (h.over j same (branches_off_way j after_path way.env changed parted.ways parted.fresh ways (λ many. none_there j ways loses)) breaks returns loses);
  }
    where
      by_flow : (k : Mode) (j : Interpretation) (f : flows.Flow) → Moves mode i n k j → Comes k j all back parted behind carried f → Play B k j parted.fresh ((join_branches after_path way.env changed parted.ways parted.fresh).said ++ more) (λ handed. go (hand f handed))
      by_flow k j (flows.Next t) moves comes =
          branches_join_then B parted.fresh all after_path way.path way.env changed behind t k j more (λ handed. go (hand (flows.Next t) handed)) (sorted_moves n i j moves.same all way.env env sorted) (env_grows n parted.fresh way.env parts.made.grows env) there
          parted.ways comes.0 parts.ways (λ many. (comes_there k j t moves.same comes.0, (behind_reaches n way parted path parts).path_is)) cover going (λ w u is moved sits.
          h.on k u (flows.Next t) (moves_then mode k k i j u n parted.fresh parts.made.grows moves moved)
          (subst (λ o. OneSits k u all (ways_of o) behind t) (sym is) (inl (sits, tt)), off_moves j u parted.fresh way.path parted.breaks parts.breaks moved.same comes.1, off_moves j u parted.fresh way.path parted.returns parts.returns moved.same comes.2))
      by_flow k j (flows.Break t) moves comes =
          left k j (flows.Break t) comes.1 (h.on k j (flows.Break t) moves (comes.0, branches_off_way j after_path way.env changed parted.ways parted.fresh comes.1 (λ many. none_there j comes.1 comes.3), comes.2, comes.3))
      by_flow k j (flows.Return t) moves comes =
          left k j (flows.Return t) comes.1 (h.on k j (flows.Return t) moves (comes.0, branches_off_way j after_path way.env changed parted.ways parted.fresh comes.1 (λ many. none_there j comes.1 comes.3), comes.2, comes.3))
