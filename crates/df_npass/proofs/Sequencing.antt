-- Where a statement leads a run, and what goes on from there; statements one after the other, and how deep they go.
use Rattle.df_npass.proofs.Words.{all_joined, ◌≡◌, inl, inr, ℕ, true, false, ◌||◌, List, [], ◌∷◌, ◌++◌, Option, None, Some, refl, sym, ◌∙◌, subst, append_assoc, option_map_or, Ty, Assigned, meet, Flowing, Unreached, Outcome, Dismissed, after, Handed, State, goes, Term, Interpretation, SameBelow, Said, Way, Flow, followed_by, Parted, ways_of, last_of, takes, if◌then◌else◌, cond-true, cond-false, truth, or_left, or_right, zero, suc, ◌+◌, Bool, Stmt, Block, If, While, Stmts, done, next, Branches, no_branch, branch, TooDeep, Running, modular_call, modular}
use Rattle.df_meaning.specs.Meaning as flows
use Rattle.df_npass.proofs.Lemmas.{AllTrue, path_true, Mode, Following, Taking, ahead, Moves, moves_then, resume, sits_as, same_then, Play, play_as, play_behind, play_later, play_over, play_silent, not_wrong, Leads, AllLead, Flows, Parts, with_handed, Sits, after_after, AllOff, OneSits, off_lead, off_moves, path_same, one_left, one_right, one_less, one_reached, reached_left, reached_right, join_left, join_right, is_taking, not_deep}

-- with this still to be handed in
abbrev pub hand : flows.Flow → List Handed → flows.Flow
hand (flows.Next t) handed = flows.Next (with_handed t handed)
hand (flows.Return t) handed = flows.Return (with_handed t handed)
hand (flows.Break t) handed = flows.Break (with_handed t handed)

-- However the run goes on, it comes by one of the ways that lead there, and by no other.
abbrev pub Comes : Mode → Interpretation → List Ty → Assigned → Parted → Assigned → Assigned → flows.Flow → Type 0
Comes mode i all back parted behind carried (flows.Next t) = OneSits mode i all parted.ways behind t × AllOff i parted.breaks × AllOff i parted.returns
Comes mode i all back parted behind carried (flows.Break t) = OneSits mode i all parted.breaks carried t × AllOff i parted.ways × AllOff i parted.returns × (parted.loses ≡ true)
Comes mode i all back parted behind carried (flows.Return t) = OneSits mode i all parted.returns back t × AllOff i parted.ways × AllOff i parted.breaks × (parted.loses ≡ true)

-- What goes on there tells of the rest of the run; where the run ends inside, all that is said behind is true.
pub record Onward (B : Type 0) (all : List Ty) (back : Assigned) (mode : Mode) (i : Interpretation) (n : ℕ) (parted : Parted) (behind carried : Assigned) (more : List Said) (go : flows.Flow → Outcome B) : Type 0 where
  pub on : (k : Mode) (j : Interpretation) (f : flows.Flow) → Moves mode i n k j → Comes k j all back parted behind carried f → Play B k j parted.fresh more (λ handed. go (hand f handed))
  pub over : (j : Interpretation) → SameBelow n i j → AllOff j parted.ways → AllOff j parted.breaks → AllOff j parted.returns → parted.loses ≡ true → AllTrue j more

-- the run ends where all that is said behind is true
pub ended_then : (B : Type 0) (mode : Mode) (i : Interpretation) (n : ℕ) (said : List Said) (run : List Handed → Outcome B) → AllTrue i said → ((handed : List Handed) → run handed ≡ Dismissed) → Play B mode i n said run
ended_then B (Following handed) i n said run all d = play_over B handed i n said run all
ended_then B (Taking handed) i n said run all d = play_silent B i n said (run handed) (λ at kind w. not_wrong at kind (d handed) w)

-- the one way
pub only : (mode : Mode) (i : Interpretation) (all : List Ty) (way : Way) (before : Assigned) (s : State) → OneSits mode i all (way ∷ []) before s → Sits mode i all way before s
only mode i all way before s h = elim h [ inl x ↦ x.0 | inr x ↦ absurd x.1 ]

-- ---- one of two

abbrev pub beside : List Said → ℕ → Parted → Parted → Parted
beside said fresh one other = record { said = said; fresh = fresh; ways = one.ways ++ other.ways; breaks = one.breaks ++ other.breaks; returns = one.returns ++ other.returns; loses = one.loses || other.loses }

-- no run leads out
pub record Off (i : Interpretation) (parted : Parted) : Type 0 where
  pub ways : AllOff i parted.ways
  pub breaks : AllOff i parted.breaks
  pub returns : AllOff i parted.returns

pub leads_off : (i : Interpretation) (n : ℕ) (path : Option Term) (parted : Parted) → Parts n path parted → path_true i path ≡ false → Off i parted
leads_off i n path parted parts e = record {
  ways = off_lead i parted.fresh path parted.ways parts.ways e;
  breaks = off_lead i parted.fresh path parted.breaks parts.breaks e;
  returns = off_lead i parted.fresh path parted.returns parts.returns e;
}

pub both_off : (i : Interpretation) (said : List Said) (fresh : ℕ) (one other : Parted) → Off i one → Off i other → Off i (beside said fresh one other)
both_off i said fresh one other h g =
    record { ways = all_joined _ one.ways other.ways h.ways g.ways; breaks = all_joined _ one.breaks other.breaks h.breaks g.breaks; returns = all_joined _ one.returns other.returns h.returns g.returns }

module _ (mode : Mode) (i : Interpretation) (all : List Ty) (back : Assigned) (said : List Said) (fresh : ℕ) (one other : Parted) (a b c d : Assigned) where
  left : (ways others : List Way) (x y : Assigned) (t : State) → OneSits mode i all ways x t → AllOff i others → OneSits mode i all (ways ++ others) (meet x y) t
  left ways others x y t h off =
      let reached = one_reached mode i all ways x t h in
      one_left mode i all ways others (meet x y) t (one_less mode i all ways x (meet x y) t (reached_left x y reached) (λ k has. join_left x y k reached has) h) off

  right : (ways others : List Way) (x y : Assigned) (t : State) → AllOff i ways → OneSits mode i all others y t → OneSits mode i all (ways ++ others) (meet x y) t
  right ways others x y t off h =
      let reached = one_reached mode i all others y t h in
      one_right mode i all ways others (meet x y) t off (one_less mode i all others y (meet x y) t (reached_right x y reached) (λ k has. join_right x y k reached has) h)

  -- a run that leads out of the one alone, or out of the other
  pub comes_left : (f : flows.Flow) → Comes mode i all back one a c f → Off i other → Comes mode i all back (beside said fresh one other) (meet a b) (meet c d) f
  comes_left (flows.Next t) comes off = (left one.ways other.ways a b t comes.0 off.ways, all_joined _ one.breaks other.breaks comes.1 off.breaks, all_joined _ one.returns other.returns comes.2 off.returns)
  comes_left (flows.Break t) comes off =
      (left one.breaks other.breaks c d t comes.0 off.breaks, all_joined _ one.ways other.ways comes.1 off.ways, all_joined _ one.returns other.returns comes.2 off.returns, or_left one.loses other.loses comes.3)
  comes_left (flows.Return t) comes off =
      (one_left mode i all one.returns other.returns back t comes.0 off.returns, all_joined _ one.ways other.ways comes.1 off.ways, all_joined _ one.breaks other.breaks comes.2 off.breaks, or_left one.loses other.loses comes.3)

  pub comes_right : (f : flows.Flow) → Off i one → Comes mode i all back other b d f → Comes mode i all back (beside said fresh one other) (meet a b) (meet c d) f
  comes_right (flows.Next t) off comes = (right one.ways other.ways a b t off.ways comes.0, all_joined _ one.breaks other.breaks off.breaks comes.1, all_joined _ one.returns other.returns off.returns comes.2)
  comes_right (flows.Break t) off comes =
      (right one.breaks other.breaks c d t off.breaks comes.0, all_joined _ one.ways other.ways off.ways comes.1, all_joined _ one.returns other.returns off.returns comes.2, or_right one.loses other.loses comes.3)
  comes_right (flows.Return t) off comes =
      (one_right mode i all one.returns other.returns back t off.returns comes.0, all_joined _ one.ways other.ways off.ways comes.1, all_joined _ one.breaks other.breaks off.breaks comes.2, or_right one.loses other.loses comes.3)

-- ---- one after another

path_taken : (i : Interpretation) (path : Option Term) → option_map_or (truth i) path true ≡ path_true i path
path_taken i None = refl
path_taken i (Some path) = refl

module _ (B : Type 0) (all : List Ty) (back : Assigned) (mode start : Mode) (i : Interpretation) (n : ℕ) (path : Option Term) (first : Flow) (second : Way → Flow) (one two : Flowing) (run : List Handed → Outcome flows.Flow) (more : List Said) (go : flows.Flow → Outcome B) (further : State → Outcome flows.Flow) (ones : Interpretation → Way → List Handed) where
  -- what the second is handed in, where the run goes on to it
  abbrev there : Way → Interpretation → List Handed
  there on j = if takes j on then ones j on else []

  -- behind the first
  abbrev later : Option Way → Mode
  later o = ahead (option_map_or (λ on. there on i) o []) mode

  abbrev on_next : flows.Flow → Outcome B
  on_next f = after (goes further f) go

  abbrev whole : Option Way → Flow
  whole o = option_map_or (λ on. followed_by first (second on)) o first

  -- the first leads nowhere
  alone : (flows_first : Flows n path first) → Onward B all back mode i n (last_of first) two.behind (meet one.breaks two.breaks) more go → first.way ≡ None → Onward B all back mode i n (last_of first) one.behind one.breaks more on_next
  alone flows_first h none = record { on = by_flow; over = h.over }
    where
      by_flow : (k : Mode) (j : Interpretation) (f : flows.Flow) → Moves mode i n k j → Comes k j all back (last_of first) one.behind one.breaks f → Play B k j first.fresh more (λ handed. on_next (hand f handed))
      by_flow k j (flows.Next t) moves comes = absurd (subst (λ o. OneSits k j all (ways_of o) one.behind t) none comes.0)
      by_flow k j (flows.Return t) moves comes = h.on k j (flows.Return t) moves comes
      by_flow k j (flows.Break t) moves comes =
          let reached = one_reached k j all first.breaks one.breaks t comes.0 in
          h.on k j (flows.Break t) moves (one_less k j all first.breaks one.breaks (meet one.breaks two.breaks) t (reached_left one.breaks two.breaks reached) (λ x has. join_left one.breaks two.breaks x reached has) comes.0, comes.1, comes.2, comes.3)

  module _ (flows_first : Flows n path first) (on : Way) (is : first.way ≡ Some on) (lead : Leads first.fresh path on) (flows_second : Flows first.fresh on.path (second on)) (h : Onward B all back mode i n (last_of (followed_by first (second on))) two.behind (meet one.breaks two.breaks) more go) where
    abbrev rest : Flow
    rest = second on

    -- where runs do not go on to the second
    past : (j : Interpretation) → AllOff j (ways_of first.way) → (path_true j on.path ≡ false)
    past j off = (subst (λ o. AllOff j (ways_of o)) is off).0

    -- out of the first alone no run goes on
    abbrev leaving : Parted
    leaving = record { said = first.said; fresh = first.fresh; ways = []; breaks = first.breaks; returns = first.returns; loses = first.loses }

    rest_off : (j : Interpretation) → path_true j on.path ≡ false → Off j (last_of rest)
    rest_off j e = leads_off j first.fresh on.path (last_of rest) flows_second e

    skipped : (k : Mode) (j : Interpretation) (f : flows.Flow) → path_true j on.path ≡ false → Play B k j rest.fresh more (λ handed. go (hand f handed)) → Play B k j first.fresh (rest.said ++ more) (λ handed. go (hand f handed))
    skipped k j f off p =
        play_behind B k j first.fresh rest.said more (λ handed. go (hand f handed)) (λ u same. flows_second.made.said.off u (sym (path_same first.fresh j u same on.path lead.path_is) ∙ off)) (play_later B k j first.fresh rest.fresh more (λ handed. go (hand f handed)) flows_second.made.grows p)

    -- from the second on
    second_onward : (k : Mode) (j : Interpretation) → Moves mode i n k j → AllOff j first.breaks → AllOff j first.returns → Onward B all back k j first.fresh (last_of rest) two.behind two.breaks more go
    second_onward k j moves no_break no_return = record {
      on = λ l u f moved comes. h.on l u f (moves_then mode k l i j u n first.fresh flows_first.made.grows moves moved)
          (comes_right l u all back (first.said ++ rest.said) rest.fresh leaving (last_of rest) Unreached two.behind one.breaks two.breaks f (still u moved.same) comes);
      over = λ u same ways breaks returns loses.
          let off = both_off u (first.said ++ rest.said) rest.fresh leaving (last_of rest) (still u same) (record { ways = ways; breaks = breaks; returns = returns }) in
          h.over u (same_then n first.fresh i j u flows_first.made.grows moves.same same) off.ways off.breaks off.returns (or_right first.loses rest.loses loses);
    }
      where
        still : (u : Interpretation) → SameBelow first.fresh j u → Off u leaving
        still u same = record { ways = tt; breaks = off_moves j u first.fresh path first.breaks flows_first.breaks same no_break; returns = off_moves j u first.fresh path first.returns flows_first.returns same no_return }

    first_onward : ((k : Mode) (j : Interpretation) (t : State) → Moves mode i n k j → Sits k j all on one.behind t → Onward B all back k j first.fresh (last_of rest) two.behind two.breaks more go → Play B (ahead (ones j on) k) j first.fresh (rest.said ++ more) (λ handed. after (further (with_handed t handed)) go))
        → Onward B all back (later (Some on)) i n (last_of first) one.behind one.breaks (rest.said ++ more) on_next
    first_onward go_second = record {
      on = by_flow;
      over = λ j same ways breaks returns loses.
          let away = past j ways in
          let off = both_off j (first.said ++ rest.said) rest.fresh leaving (last_of rest) (record { ways = tt; breaks = breaks; returns = returns }) (rest_off j away) in
          all_joined _ rest.said more (flows_second.made.said.off j away) (h.over j same off.ways off.breaks off.returns (or_left first.loses rest.loses loses));
    }
      where
        by_leaving : (k : Mode) (j : Interpretation) (f : flows.Flow) → Moves (later (Some on)) i n k j → AllOff j (ways_of first.way) → Comes k j all back leaving Unreached one.breaks f → Play B k j first.fresh (rest.said ++ more) (λ handed. go (hand f handed))
        by_leaving k j f moves off comes =
            let away = past j off in
            let here = resume (λ from. Moves mode i n from j) (there on) mode i n k j moves (λ from here kind. subst (λ xs. Moves mode i n (ahead xs from) j) (sym (cond-false (takes j on) (ones j on) [] (path_taken j on.path ∙ away))) here) in
            skipped k j f away (h.on k j f here (comes_left k j all back (first.said ++ rest.said) rest.fresh leaving (last_of rest) Unreached two.behind one.breaks two.breaks f comes (rest_off j away)))

        by_flow : (k : Mode) (j : Interpretation) (f : flows.Flow) → Moves (later (Some on)) i n k j → Comes k j all back (last_of first) one.behind one.breaks f → Play B k j first.fresh (rest.said ++ more) (λ handed. on_next (hand f handed))
        by_flow k j (flows.Next t) moves comes =
            let sits = only k j all on one.behind t (subst (λ o. OneSits k j all (ways_of o) one.behind t) is comes.0) in
            resume (λ from. Play B from j first.fresh (rest.said ++ more) (λ handed. after (further (with_handed t handed)) go)) (there on) mode i n k j moves (λ from here kind.
            subst (λ xs. Play B (ahead xs from) j first.fresh (rest.said ++ more) (λ handed. after (further (with_handed t handed)) go)) (sym (cond-true (takes j on) (ones j on) [] (path_taken j on.path ∙ sits.there)))
            (go_second from j t here (sits_as k from j all on one.behind t kind sits) (second_onward from j here comes.1 comes.2)))
        by_flow k j (flows.Break t) moves comes = by_leaving k j (flows.Break t) moves comes.1 (comes.0, tt, comes.2, comes.3)
        by_flow k j (flows.Return t) moves comes = by_leaving k j (flows.Return t) moves comes.1 (comes.0, tt, comes.2, comes.3)

  pub then_play : Flows n path first → ((on : Way) → Leads first.fresh path on → Flows first.fresh on.path (second on))
      → ((said : List Said) → Onward B all back (later first.way) i n (last_of first) one.behind one.breaks said on_next → Play B start i n (first.said ++ said) (λ handed. after (run handed) on_next))
      → ((on : Way) (k : Mode) (j : Interpretation) (t : State) → Leads first.fresh path on → Moves mode i n k j → Sits k j all on one.behind t → Onward B all back k j first.fresh (last_of (second on)) two.behind two.breaks more go
      → Play B (ahead (ones j on) k) j first.fresh ((second on).said ++ more) (λ handed. after (further (with_handed t handed)) go))
      → Onward B all back mode i n (last_of (whole first.way)) two.behind (meet one.breaks two.breaks) more go
      → Play B start i n ((whole first.way).said ++ more) (λ handed. after (after (run handed) (goes further)) go)
  then_play flows_first flows_second play_first play_second h =
      play_as B start i n ((whole first.way).said ++ more) _ (λ handed. after (run handed) on_next) (λ handed. after_after (run handed) (goes further) go) (by_way first.way refl h)
    where
      by_way : (o : Option Way) → first.way ≡ o → Onward B all back mode i n (last_of (whole o)) two.behind (meet one.breaks two.breaks) more go → Play B start i n ((whole o).said ++ more) (λ handed. after (run handed) on_next)
      by_way None e h = play_first more (subst (λ o. Onward B all back (later o) i n (last_of first) one.behind one.breaks more on_next) (sym e) (alone flows_first h e))
      by_way (Some on) e h =
          let lead = (subst (λ o. AllLead first.fresh path (ways_of o)) e flows_first.ways).0 in
          subst (λ said. Play B start i n said (λ handed. after (run handed) on_next)) (sym (append_assoc first.said (second on).said more))
          (play_first ((second on).said ++ more) (subst (λ o. Onward B all back (later o) i n (last_of first) one.behind one.breaks ((second on).said ++ more) on_next) (sym e)
          (first_onward flows_first on e lead (flows_second on lead) h (λ k j t moves sits onward. play_second on k j t lead moves sits onward))))

-- how many loops are in it: a depth that is enough
abbrev mutual
  pub nesting : Stmt → ℕ
  nesting (Block at body) = nesting_all body
  nesting (If branches otherwise) = nesting_branches branches + nesting_all otherwise
  nesting (While at guard invariants decreases body) = suc (nesting_all body)
  nesting stmt = 0

  pub nesting_all : Stmts → ℕ
  nesting_all done = 0
  nesting_all (next stmt others) = nesting stmt + nesting_all others

  pub nesting_branches : Branches → ℕ
  nesting_branches no_branch = 0
  nesting_branches (branch at guard body rest) = nesting_all body + nesting_branches rest

pub call_of_modular : (run : Running) (depth : ℕ) → (modular run depth).call ≡ modular_call run
call_of_modular run zero = refl
call_of_modular run (suc depth) = refl

-- too deep, where the interpretation takes what is handed in
pub deep_play : (B : Type 0) (mode : Mode) (i : Interpretation) (n : ℕ) (said : List Said) → (is_taking mode ≡ false → ⊥) → Play B mode i n said (λ handed. TooDeep)
deep_play B (Following handed) i n said h = absurd (h refl)
deep_play B (Taking handed) i n said h = play_silent B i n said TooDeep (λ at kind w. not_deep at kind refl w)

-- one of two runs, each with what it is handed in, by what is decided
pub decide : (B : Type 0) (A : Type 0) (mode : Mode) (these those : List Handed) (i : Interpretation) (n : ℕ) (said : List Said) (x y : List Handed → Outcome A) (go : A → Outcome B) (b : Bool)
    → (b ≡ true → Play B (ahead these mode) i n said (λ handed. after (x handed) go)) → (b ≡ false → Play B (ahead those mode) i n said (λ handed. after (y handed) go))
    → Play B (ahead (if b then these else those) mode) i n said (λ handed. after (if b then x handed else y handed) go)
decide B A mode these those i n said x y go true f g = f refl
decide B A mode these those i n said x y go false f g = g refl
