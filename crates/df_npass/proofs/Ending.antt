-- Where a method ends its postconditions are owed.
use Rattle.std.proofs.Common.{append-nil}
use Rattle.df_npass.proofs.Words.{Ensures, all_joined, ◌≡◌, inl, inr, ℕ, suc, ◌≤◌, ◌<◌, ◌+◌, ◌==◌, true, false, List, [], ◌∷◌, ◌++◌, length, Option, None, Some, refl, sym, ap, ◌∙◌, subst, append_assoc, arith, eq-eqb, ltb-true, cases_lt, or_left, or_right, length-map, map-append, option_map_or, Ty, Param, Method, Program, types_of, same_type, are_clauses, Assigned, has_value, results_at, unassigned, Outcome, Gives, Wrong, TooDeep, NoChoice, Dismissed, after, Handed, State, Meaning, check_all, end_of, Changed, is_changed, joined, are_there, Within, same_self, Term, Interpretation, Said, Way, paths_of, any_path, Joined, join, Flow, ways_of, last_of, at_clause, assert_clauses, way_in, locals_from, ended, true_is_not_false}
use Rattle.df_meaning.specs.Meaning as flows
use Rattle.df_npass.proofs.Runs.{AllTrue, by_option, Mode, Following, Taking, Moves, Play, play_as, play_silent, play_over, EnvBelow, env_grows, clauses_proper, AllLead, JoinGoing, join_going, any_path_reaches, AllStay, Flows, with_handed, SortedAll, check_then, AllOff, OneSits, sorted_moves, one_left, one_right, one_less, get_at, one_longer, back, HasParameters, back_has, first_read, join_then, no_path, one_path, join_off_said, join_off_way, hand, Comes, Onward, ended_then}

-- ---- the first locals

locals_cover : (from : ℕ) (params : List Param) (k : ℕ) → from ≤ k → k < from + length params → is_changed (locals_from from params) k ≡ true
locals_cover from [] k more less = absurd (omega (arith, more, less))
locals_cover from (param ∷ params) k more less = elim (cases_lt k (suc from)) [
  | inl l ↦ or_left (from == k) (is_changed (locals_from (suc from) params) k) (eq-eqb from k (omega (arith, l, more)))
  | inr l ↦ or_right (from == k) (is_changed (locals_from (suc from) params) k) (locals_cover (suc from) params k l (omega (arith, less)))
]

locals_there : (all front : List Ty) (params : List Param) → Within (front ++ types_of params) all → are_there all (locals_from (length front) params) ≡ true
locals_there all front [] within = refl
locals_there all front (param ∷ params) within =
    let at = within.at (length front) param.ty (get_at front param.ty (types_of params)) in
    joined _ _ (subst (λ (o : Option Ty). option_map_or (same_type param.ty) o false ≡ true) (sym at) (same_self param.ty))
    (subst (λ (k : ℕ). are_there all (locals_from k params) ≡ true) (one_longer front param.ty)
    (locals_there all (front ++ param.ty ∷ []) params (subst (λ (tys : List Ty). Within tys all) (sym (append_assoc front (param.ty ∷ []) (types_of params))) within)))

after_gives : {A : Type 0} (o : Outcome A) → after o (λ a. Gives a) ≡ o
after_gives (Gives a) = refl
after_gives (Wrong at kind) = refl
after_gives TooDeep = refl
after_gives NoChoice = refl
after_gives Dismissed = refl

given_play : (B : Type 0) (mode : Mode) (i : Interpretation) (n : ℕ) (b : List Handed → B) → Play B mode i n [] (λ handed. Gives (b handed))
given_play B (Following handed) i n b = play_over B handed i n [] (λ handed. Gives (b handed)) tt
given_play B (Taking handed) i n b = play_silent B i n [] (Gives (b handed)) (λ at kind e. cc)

module _ (program : Program) (own : Method) (all : List Ty) (within : Within (types_of own.parameters ++ types_of own.results) all) (typed : are_clauses program (types_of own.parameters ++ types_of own.results) own.postconditions ≡ true)
    (m : Meaning) (m_is : m.program ≡ program) (n : ℕ) (mode : Mode) (i : Interpretation) (flow : Flow) (program_is : i.program ≡ program) (env : EnvBelow n (way_in own).env) (sorted : SortedAll i all (way_in own).env) (flows_body : Flows n None flow) where
  abbrev tys : List Ty
  tys = types_of own.parameters ++ types_of own.results

  abbrev ways : List Way
  ways = flow.returns ++ ways_of flow.way

  abbrev changed : List Changed
  changed = locals_from 0 (own.parameters ++ own.results)

  abbrev after_path : Option Term
  after_path = any_path (paths_of ways)

  abbrev joined_ways : Joined
  joined_ways = join after_path (way_in own).env changed ways flow.fresh

  abbrev owed : Option Way → List Said
  owed o = option_map_or (λ way. assert_clauses at_clause Ensures way own.postconditions) o []

  leads : AllLead flow.fresh None ways
  leads = all_joined _ flow.returns (ways_of flow.way) flows_body.returns flows_body.ways

  here_env : EnvBelow flow.fresh (way_in own).env
  here_env = env_grows n flow.fresh (way_in own).env flows_body.made.grows env

  going : JoinGoing flow.fresh None joined_ways
  going = join_going after_path (way_in own).env changed ways flow.fresh None here_env leads (any_path_reaches flow.fresh None ways leads)

  there : are_there all changed ≡ true
  there = locals_there all [] (own.parameters ++ own.results) (subst (λ (ts : List Ty). Within ts all) (sym (map-append (λ (param : Param). param.ty) own.parameters own.results)) within)

  many : length tys ≡ length (own.parameters ++ own.results)
  many = ap length (sym (map-append (λ (param : Param). param.ty) own.parameters own.results)) ∙ length-map (own.parameters ++ own.results) (λ (param : Param). param.ty)

  cover : (k : ℕ) → has_value (back own) k ≡ true → is_changed changed k ≡ false → AllStay k (way_in own).env ways
  cover k has e =
      let less = ltb-true k (length tys) has in
      let is = locals_cover 0 (own.parameters ++ own.results) k (omega arith) (omega (arith, less, many)) in
      absurd (true_is_not_false (is_changed changed k) is e)

  -- where no run ends, nothing is said of it
  ended_off : (j : Interpretation) → AllOff j ways → AllTrue j (ended own flow)
  ended_off j off =
      all_joined _ joined_ways.said (owed joined_ways.way) (join_off_said j after_path (way_in own).env changed ways flow.fresh off)
      (by_option (AllTrue j) (λ way. assert_clauses at_clause Ensures way own.postconditions) joined_ways.way [] (λ e. tt) (λ way e.
      let lead = (subst (λ o. AllLead joined_ways.fresh None (ways_of o)) e going.way).0 in
      let away = (subst (λ o. AllOff j (ways_of o)) e (join_off_way j after_path (way_in own).env changed ways flow.fresh off (λ several. no_path j ways off))).0 in
      (clauses_proper joined_ways.fresh way lead.path_is lead.env at_clause Ensures own.postconditions).off j away))

  ended_play : (k : Mode) (j : Interpretation) (t : State) → Moves mode i n k j → OneSits k j all ways (back own) t → Play State k j flow.fresh (ended own flow) (λ handed. check_all m (with_handed t handed) Ensures own.postconditions)
  ended_play k j t moves one =
      join_then State flow.fresh all after_path None (way_in own).env changed (back own) t k j (owed joined_ways.way) (λ handed. check_all m (with_handed t handed) Ensures own.postconditions) (sorted_moves n i j moves.same all (way_in own).env env sorted) here_env there
      ways one leads (λ several. (one_path k j all ways (back own) t one, (any_path_reaches flow.fresh None ways leads).path_is)) cover going (λ w u is moved sits.
      let lead = (subst (λ o. AllLead joined_ways.fresh None (ways_of o)) is going.way).0 in
      subst (λ o. Play State k u joined_ways.fresh (owed o) (λ handed. check_all m (with_handed t handed) Ensures own.postconditions)) (sym is)
      (subst (λ said. Play State k u joined_ways.fresh said (λ handed. check_all m (with_handed t handed) Ensures own.postconditions)) (append-nil (owed (Some w)))
      (play_as State k u joined_ways.fresh _ _ (λ handed. after (check_all m (with_handed t handed) Ensures own.postconditions) (λ x. Gives x)) (λ handed. sym (after_gives (check_all m (with_handed t handed) Ensures own.postconditions)))
      (check_then State k u joined_ways.fresh program m m_is (sym moved.same.program ∙ (sym moves.same.program ∙ program_is)) tys all within (back own) w t sits lead.env lead.path_is Ensures own.postconditions [] (λ handed x. Gives x) typed (first_read program tys own.postconditions typed)
      (given_play State k u joined_ways.fresh (λ handed. with_handed t handed))))))

  -- what goes on behind the body
  pub ended_onward : (behind carried : Assigned) → HasParameters own behind → unassigned behind (results_at own own.pos) ≡ []
      → Onward State all (back own) mode i n (last_of flow) behind carried (ended own flow) (λ f. after (end_of f) (λ t. check_all m t Ensures own.postconditions))
  ended_onward behind carried params none = record {
    on = by_flow;
    over = λ j same no_way no_break no_return loses. ended_off j (all_joined _ flow.returns (ways_of flow.way) no_return no_way);
  }
    where
      by_flow : (k : Mode) (j : Interpretation) (f : flows.Flow) → Moves mode i n k j → Comes k j all (back own) (last_of flow) behind carried f
          → Play State k j flow.fresh (ended own flow) (λ handed. after (end_of (hand f handed)) (λ t. check_all m t Ensures own.postconditions))
      by_flow k j (flows.Next t) moves comes =
          ended_play k j t moves (one_right k j all flow.returns (ways_of flow.way) (back own) t comes.2 (one_less k j all (ways_of flow.way) behind (back own) t tt (back_has own own.pos behind params none) comes.0))
      by_flow k j (flows.Return t) moves comes = ended_play k j t moves (one_left k j all flow.returns (ways_of flow.way) (back own) t comes.0 comes.1)
      by_flow k j (flows.Break t) moves comes = ended_then State k j flow.fresh (ended own flow) (λ handed. Dismissed) (ended_off j (all_joined _ flow.returns (ways_of flow.way) comes.2 comes.1)) (λ handed. refl)
