-- The one turn of a loop, and what goes on behind the loop.
use Rattle.df_npass.proofs.Words.{Decreases, Turn, all_joined, meaning, ◌≡◌, inl, inr, ℕ, Bool, true, false, not, if◌then◌else◌, List, [], ◌∷◌, ◌++◌, map, Option, None, Some, refl, sym, ap, ◌∙◌, subst, append_assoc, option_map_or, Ty, Measure, Program, loop_measure, are_clauses, Assigned, Unreached, has_value, meet, reads_of_clauses, reads_of_measures, unassigned, Value, truth_of, Outcome, Wrong, Dismissed, after, Handed, State, Meaning, Loop, check_all, Changed, measure_values, check_below, behind_once, is_changed, are_there, Within, Term, negation, Interpretation, truth, term_of, Measured, measured, are_below, AreMeasured, IsBelow, SameBelow, below_orders, Said, Way, narrowed, assert, paths_of, any_path, Joined, join, Flow, ways_of, last_of, at_clause, assert_clauses, assert_measure, assert_turn, behind_loop, Gives}
use Rattle.df_meaning.specs.Meaning as flows
use Rattle.df_meaning.specs.Order as order
use Rattle.df_npass.proofs.Runs.{AllTrue, path_true, narrowed_true, Mode, Moves, moves_here, moves_then, Play, play_as, play_behind, play_later, PathBelow, EnvBelow, MeasureBelow, env_grows, measured_below, measure_grows, narrowed_below, order_below, AllLead, lead_grows, farther, narrowed_leads, JoinGoing, join_going, any_path_reaches, AllStay, Flows, turn_proper, with_handed, SortedAll, Sits, check_then, measures_then, checked_then, after_after, after_either, then_same, IsReached, AllOff, OneSits, off_lead, off_moves, path_same, sorted_moves, sits_less, one_less, one_reached, reached_left, reached_right, join_left, join_right, AreTyped, measure_moves, measured_moves, join_then, no_path, one_path, join_off_said, join_off_way, hand, Comes, Onward, only, ended_then}

pub three_parts : {A : Type 0} (xs ys zs more : List A) → (xs ++ (ys ++ zs)) ++ more ≡ xs ++ (ys ++ (zs ++ more))
three_parts xs ys zs more = append_assoc xs (ys ++ zs) more ∙ ap (λ r. xs ++ r) (append_assoc ys zs more)

negated : (i : Interpretation) (a : Term) (b : Bool) → truth i a ≡ b → truth i (negation a) ≡ not b
negated i a b e = ap not e

-- behind a turn the run ends
turn_ends : (B : Type 0) (all : List Ty) (program : Program) (m : Meaning) (m_is : m.program ≡ program) (locals : List Ty) (within : Within locals all) (loop : Loop) (mode : Mode) (i : Interpretation) (n : ℕ) (way : Way) (before : Assigned) (s : State) (earlier : List Measured) (rest : List Said) (go : flows.Flow → Outcome B)
    → i.program ≡ program → EnvBelow n way.env → PathBelow n way.path → Sits mode i all way before s → are_clauses program locals loop.invariants ≡ true → unassigned before (reads_of_clauses loop.invariants) ≡ []
    → AreTyped program locals (loop_measure loop.guard loop.decreases) → unassigned before (reads_of_measures (Some (loop_measure loop.guard loop.decreases))) ≡ [] → MeasureBelow n earlier → AreMeasured i earlier → AllTrue i rest
    → Play B mode i n (assert_turn loop.pos loop.invariants (loop_measure loop.guard loop.decreases) earlier way ++ rest) (λ handed. after (behind_once m loop (map (λ (one : Measured). meaning i one.value) earlier) (flows.Next (with_handed s handed))) go)
turn_ends B all program m m_is locals within loop mode i n way before s earlier rest go program_is env path sits typed read measures_typed measures_read earlier_below earlier_measured true_behind =
    let measures = loop_measure loop.guard loop.decreases in
    let values = map (λ (one : Measured). meaning i one.value) earlier in
    let now = map (λ (one : Measured). meaning i one.value) (measured way.env measures) in
    let owed = assert way.path loop.pos Decreases (are_below (measured way.env measures) earlier) in
    let falls : List Value → Outcome B = (λ now. after (check_below loop.pos now values) (λ checked. Dismissed)) in
    subst (λ said. Play B mode i n said (λ handed. after (behind_once m loop values (flows.Next (with_handed s handed))) go)) (sym (three_parts (assert_clauses at_clause Turn way loop.invariants) (assert_measure way measures) owed rest))
    (play_as B mode i n _ _ (λ handed. after (check_all m (with_handed s handed) Turn loop.invariants) (λ u. after (measure_values m u measures) falls))
    (λ handed. after_after (check_all m (with_handed s handed) Turn loop.invariants) _ go ∙ then_same (check_all m (with_handed s handed) Turn loop.invariants) _ _ (λ u. after_after (measure_values m u measures) _ go
    ∙ then_same (measure_values m u measures) _ _ (λ now. after_after (check_below loop.pos now values) _ go)))
    (check_then B mode i n program m m_is program_is locals all within before way s sits env path Turn loop.invariants (assert_measure way measures ++ (owed ++ rest)) (λ handed u. after (measure_values m u measures) falls) typed read
    (measures_then B mode i n program m m_is program_is locals all within before way s sits env path measures (owed ++ rest) (λ handed now. falls now) measures_typed measures_read (λ are.
    play_as B mode i n (owed ++ rest) _ (λ handed. if order.are_below now values then Dismissed else Wrong loop.pos Decreases) (λ handed. after_either (order.are_below now values) (Gives now) (Wrong loop.pos Decreases) (λ checked. Dismissed) (Wrong loop.pos Decreases) refl)
    (checked_then B mode i n way.path sits.there path loop.pos Decreases (are_below (measured way.env measures) earlier) (order.are_below now values) rest (λ handed. Dismissed) (order_below n (measured way.env measures) earlier (measured_below n way.env env measures) earlier_below)
    (sym (ap truth_of (below_orders i (measured way.env measures) earlier are earlier_measured))) (ended_then B mode i n rest (λ handed. Dismissed) true_behind (λ handed. refl)))))))

module _ (B : Type 0) (all : List Ty) (back : Assigned) (program : Program) (m : Meaning) (m_is : m.program ≡ program) (locals : List Ty) (within : Within locals all) (loop : Loop) (mode : Mode) (i : Interpretation) (n : ℕ) (any : Way) (changed : List Changed) (flow : Flow)
    (before behind breaks : Assigned) (more : List Said) (go : flows.Flow → Outcome B)
    (program_is : i.program ≡ program) (env : EnvBelow n any.env) (path : PathBelow n any.path) (term_is : IsBelow n (term_of any.env loop.guard)) (flows_body : Flows n (narrowed any (term_of any.env loop.guard)).path flow)
    (typed : are_clauses program locals loop.invariants ≡ true) (read : unassigned before (reads_of_clauses loop.invariants) ≡ [])
    (measures_typed : AreTyped program locals (loop_measure loop.guard loop.decreases)) (measures_read : unassigned before (reads_of_measures (Some (loop_measure loop.guard loop.decreases))) ≡ [])
    (sorted : SortedAll i all any.env) (there : are_there all changed ≡ true) (here : path_true i any.path ≡ true)
    (cover : (k : ℕ) → has_value (meet before breaks) k ≡ true → is_changed changed k ≡ false → AllStay k any.env (narrowed any (negation (term_of any.env loop.guard)) ∷ flow.breaks))
    (reached : IsReached before) (kept : (k : ℕ) → has_value before k ≡ true → has_value behind k ≡ true)
    (h : Onward B all back mode i n (last_of (behind_loop loop.pos loop.invariants (loop_measure loop.guard loop.decreases) (measured any.env (loop_measure loop.guard loop.decreases)) changed (narrowed any (negation (term_of any.env loop.guard))) flow)) (meet before breaks) Unreached more go) where
  abbrev measures : List Measure
  measures = loop_measure loop.guard loop.decreases

  abbrev inside : Way
  inside = narrowed any (term_of any.env loop.guard)

  abbrev outside : Way
  outside = narrowed any (negation (term_of any.env loop.guard))

  abbrev ways : List Way
  ways = outside ∷ flow.breaks

  abbrev after_path : Option Term
  after_path = any_path (paths_of ways)

  abbrev earlier : List Measured
  earlier = measured any.env measures

  abbrev turn_said : List Said
  turn_said = option_map_or (assert_turn loop.pos loop.invariants measures earlier) flow.way []

  leads : AllLead flow.fresh any.path ways
  leads = (
    lead_grows n flow.fresh any.path outside flows_body.made.grows (narrowed_leads n any (negation (term_of any.env loop.guard)) env path (rw (term_is) refl)),
    farther flow.fresh any.path inside flow.breaks (lead_grows n flow.fresh any.path inside flows_body.made.grows (narrowed_leads n any (term_of any.env loop.guard) env path term_is)) flows_body.breaks,
  )

  going : JoinGoing flow.fresh any.path (join after_path outside.env changed ways flow.fresh)
  going = join_going after_path outside.env changed ways flow.fresh any.path (env_grows n flow.fresh any.env flows_body.made.grows env) leads (any_path_reaches flow.fresh any.path ways leads)

  turn_off : (j : Interpretation) → AllOff j (ways_of flow.way) → AllTrue j turn_said
  turn_off j off = by_way flow.way off flows_body.ways
    where
      by_way : (o : Option Way) → AllOff j (ways_of o) → AllLead flow.fresh inside.path (ways_of o) → AllTrue j (option_map_or (assert_turn loop.pos loop.invariants measures earlier) o [])
      by_way None off lead = tt
      by_way (Some on) off lead = (turn_proper flow.fresh loop.pos loop.invariants measures earlier on lead.0.path_is lead.0.env (measure_grows n flow.fresh earlier flows_body.made.grows (measured_below n any.env env measures))).off j off.0

  -- the loop is left
  leave_play : (k : Mode) (j : Interpretation) (t : State) → Moves mode i n k j → OneSits k j all ways (meet before breaks) t → AllOff j (ways_of flow.way) → AllOff j flow.returns
      → Play B k j flow.fresh (turn_said ++ ((join after_path outside.env changed ways flow.fresh).said ++ more)) (λ handed. go (flows.Next (with_handed t handed)))
  leave_play k j t moves one no_way no_return =
      let joined = join after_path outside.env changed ways flow.fresh in
      play_behind B k j flow.fresh turn_said (joined.said ++ more) (λ handed. go (flows.Next (with_handed t handed))) (λ u same. turn_off u (off_moves j u flow.fresh inside.path (ways_of flow.way) flows_body.ways same no_way))
      (join_then B flow.fresh all after_path any.path outside.env changed (meet before breaks) t k j more (λ handed. go (flows.Next (with_handed t handed))) (sorted_moves n i j moves.same all any.env env sorted) (env_grows n flow.fresh any.env flows_body.made.grows env) there
      ways one leads (λ many. (one_path k j all ways (meet before breaks) t one, (any_path_reaches flow.fresh any.path ways leads).path_is)) cover going (λ w u is moved sits.
      h.on k u (flows.Next t) (moves_then mode k k i j u n flow.fresh flows_body.made.grows moves moved)
      (subst (λ o. OneSits k u all (ways_of o) (meet before breaks) t) (sym is) (inl (sits, tt)), tt, off_moves j u flow.fresh inside.path flow.returns flows_body.returns moved.same no_return)))

  -- the guard is false
  pub outside_play : (s : State) → truth i (term_of any.env loop.guard) ≡ false → Sits mode i all any before s
      → Play B mode i n (flow.said ++ (turn_said ++ ((join after_path outside.env changed ways flow.fresh).said ++ more))) (λ handed. go (flows.Next (with_handed s handed)))
  outside_play s is_false sits =
      let joined = join after_path outside.env changed ways flow.fresh in
      let off = narrowed_true i any.path (term_of any.env loop.guard) here ∙ is_false in
      let out = narrowed_true i any.path (negation (term_of any.env loop.guard)) here ∙ negated i (term_of any.env loop.guard) false is_false in
      let run : List Handed → Outcome B = (λ handed. go (flows.Next (with_handed s handed))) in
      let outside_sits : Sits mode i all outside before s = record { there = out; sorted = sits.sorted; holds = sits.holds; set = sits.set; present = sits.present } in
      let off_ways = (λ (xs : List Way) (lead : AllLead flow.fresh inside.path xs). off_lead i flow.fresh inside.path xs lead off) in
      play_behind B mode i n flow.said (turn_said ++ (joined.said ++ more)) run (λ j same. flows_body.made.said.off j (sym (path_same n i j same inside.path (narrowed_below n any.path (term_of any.env loop.guard) path term_is)) ∙ off))
      (play_later B mode i n flow.fresh (turn_said ++ (joined.said ++ more)) run flows_body.made.grows
      (leave_play mode i s (moves_here mode i n)
      (one_less mode i all ways before (meet before breaks) s (reached_left before breaks reached) (λ k has. join_left before breaks k reached has) (inl (outside_sits, off_ways flow.breaks flows_body.breaks)))
      (off_ways (ways_of flow.way) flows_body.ways) (off_ways flow.returns flows_body.returns)))

  -- the guard is true: the body runs once
  pub inside_onward : truth i (term_of any.env loop.guard) ≡ true → AreMeasured i earlier
      → Onward B all back mode i n (last_of flow) behind breaks (turn_said ++ ((join after_path outside.env changed ways flow.fresh).said ++ more)) (λ f. after (behind_once m loop (map (λ (one : Measured). meaning i one.value) earlier) f) go)
  inside_onward is_true are = record {
    on = by_flow;
    over = λ j same no_way no_break no_return loses. all_joined _ turn_said (joined.said ++ more) (turn_off j no_way) (behind_true j same no_break no_return);
  }
    where
      joined : Joined
      joined = join after_path outside.env changed ways flow.fresh

      out : truth i (term_of any.env loop.guard) ≡ true → path_true i outside.path ≡ false
      out is_true = narrowed_true i any.path (negation (term_of any.env loop.guard)) here ∙ negated i (term_of any.env loop.guard) true is_true

      off_out : (j : Interpretation) → SameBelow n i j → path_true j outside.path ≡ false
      off_out j same = sym (path_same n i j same outside.path (narrowed_below n any.path (negation (term_of any.env loop.guard)) path (rw (term_is) refl))) ∙ out is_true

      behind_true : (j : Interpretation) → SameBelow n i j → AllOff j flow.breaks → AllOff j flow.returns → AllTrue j (joined.said ++ more)
      behind_true j same no_break no_return =
          let off : AllOff j ways = (off_out j same, no_break) in
          all_joined _ joined.said more (join_off_said j after_path outside.env changed ways flow.fresh off) (h.over j same (join_off_way j after_path outside.env changed ways flow.fresh off (λ many. no_path j ways off)) tt no_return refl)

      values : List Value
      values = map (λ (one : Measured). meaning i one.value) earlier

      by_flow : (k : Mode) (j : Interpretation) (f : flows.Flow) → Moves mode i n k j → Comes k j all back (last_of flow) behind breaks f
          → Play B k j flow.fresh (turn_said ++ (joined.said ++ more)) (λ handed. after (behind_once m loop values (hand f handed)) go)
      by_flow k j (flows.Next t) moves comes = by_way flow.way comes.0 flows_body.ways
        where
          by_way : (o : Option Way) → OneSits k j all (ways_of o) behind t → AllLead flow.fresh inside.path (ways_of o)
              → Play B k j flow.fresh (option_map_or (assert_turn loop.pos loop.invariants measures earlier) o [] ++ (joined.said ++ more)) (λ handed. after (behind_once m loop values (flows.Next (with_handed t handed))) go)
          by_way None one lead = absurd one
          by_way (Some on) one lead =
              let below = measured_below n any.env env measures in
              subst (λ vs. Play B k j flow.fresh (assert_turn loop.pos loop.invariants measures earlier on ++ (joined.said ++ more)) (λ handed. after (behind_once m loop vs (flows.Next (with_handed t handed))) go)) (sym (measure_moves n i j moves.same earlier below))
              (turn_ends B all program m m_is locals within loop k j flow.fresh on before t earlier (joined.said ++ more) go (sym moves.same.program ∙ program_is) lead.0.env lead.0.path_is (sits_less k j all on behind before t reached kept (only k j all on behind t one))
              typed read measures_typed measures_read (measure_grows n flow.fresh earlier flows_body.made.grows below) (measured_moves n i j moves.same earlier below are) (behind_true j moves.same comes.1 comes.2))
      by_flow k j (flows.Break t) moves comes =
          let reached_breaks = one_reached k j all flow.breaks breaks t comes.0 in
          leave_play k j t moves (inr (off_out j moves.same, one_less k j all flow.breaks breaks (meet before breaks) t (reached_right before breaks reached_breaks) (λ x has. join_right before breaks x reached_breaks has) comes.0)) comes.1 comes.2
      by_flow k j (flows.Return t) moves comes =
          let off : AllOff j ways = (off_out j moves.same, comes.2) in
          let run : List Handed → Outcome B = (λ handed. go (flows.Return (with_handed t handed))) in
          play_behind B k j flow.fresh turn_said (joined.said ++ more) run (λ u same. turn_off u (off_moves j u flow.fresh inside.path (ways_of flow.way) flows_body.ways same comes.1))
          (play_behind B k j flow.fresh joined.said more run (λ u same. join_off_said u after_path outside.env changed ways flow.fresh (off_moves j u flow.fresh any.path ways leads same off))
          (play_later B k j flow.fresh joined.fresh more run going.made.grows (h.on k j (flows.Return t) moves (comes.0, join_off_way j after_path outside.env changed ways flow.fresh off (λ many. no_path j ways off), tt, refl))))
