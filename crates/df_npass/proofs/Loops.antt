-- Runs of `print` and of loops.
use Rattle.df_npass.proofs.Words.{Entry, meaning, ◌≡◌, ℕ, suc, Bool, true, false, ◌&&◌, if◌then◌else◌, List, [], ◌∷◌, ◌++◌, map, length, Option, None, Some, refl, sym, ap, ◌∙◌, subst, append_assoc, le_refl, list_all, flat_map, option_map_or, Pos, Ty, Expr, Operand, Text, Shown, Clause, Measure, While, Stmts, Method, Program, loop_measure, is_type, is_expr, are_clauses, are_measures, is_operand, locals_after_all, is_measured, is_stmt, are_stmts, is_well_typed, Assigned, Unreached, has_value, meet, reads, reads_of_operand, reads_of_clauses, reads_of_measures, unassigned, Flowing, flow, flow_all, Value, truth_of, Outcome, Gives, TooDeep, after, State, printed, Meaning, Loop, AreDeclared, evaluate, check_all, print_all, execute, execute_all, turns_with, Running, changed_by_all, assume_each, or_dismissed, measure_values, handed_turn, behind_once, modular_turn, modular_turns, modular, plain_meaning, is_changed, both, four, are_there, all_there, nothing_missing, parted, place, all_carry, Within, before_all, program_of_modular, negation, Interpretation, truth, term_of, Measured, measured, term_below, Said, Way, narrowed, havoc, paths_of, any_path, join, at_clause, assert_clauses, assume_clauses, assert_expr, assert_measure, assert_operand, declared_by_all, changed_outside, last_of, assert_turn, behind_loop, pass_stmt, pass_all, turn_in, handed_at_all, handed_at}
use Rattle.df_lang.specs.declared.ty.Ty.TheVariants as types
use Rattle.df_meaning.specs.Value as values
use Rattle.df_meaning.specs.Meaning as flows
use Rattle.df_npass.specs.Statements as passing
use Rattle.df_npass.proofs.Runs.{narrowed_true, Mode, is_taking, ahead, resume, sits_as, moves_here, moves_then, same_then, Play, play_as, play_behind, measure_grows, measure_proper, narrowed_leads, havoc_going, all_flows, AllStay, all_stay, with_handed, Sits, expr_then, check_then, assume_then, measures_then, after_after, then_same, path_same, join_left, once_there, loop_measure_typed, loop_measure_reads, all_declare, deep_play, decide, back, turn_then, setting, running, entered_moves, Stands, stands_moves, stands_ahead, Onward, outside_there, types_there, declared_less}
use Rattle.df_npass.proofs.Covering.{outside_is}
use Rattle.df_npass.proofs.Looping.{three_parts, outside_play, inside_onward}

while_parts : {A : Type 0} (a b c d e f more : List A) → ((a ++ (b ++ (c ++ (d ++ e)))) ++ f) ++ more ≡ a ++ (b ++ (c ++ (d ++ (e ++ (f ++ more)))))
while_parts a b c d e f more = simp append_assoc

module _ (B : Type 0) (program : Program) (well : is_well_typed program ≡ true) (groups : List ℕ) (number : ℕ) (entry : List Measured) (entered : List Value) (own : Method) (all : List Ty) (all_types : list_all (is_type program) all ≡ true) where
  abbrev set : passing.Setting
  set = setting B program well groups number entry entered

  abbrev run : Running
  run = running B program well groups number entry entered

  -- ---- `print`

  pub print_then : (depth : ℕ) (locals : List Ty) (within : Within locals all) (in_loop : Bool) (before : Assigned) (operands : List Operand) (mode : Mode) (i : Interpretation) (n : ℕ) (way : Way) (s : State) (more : List Said) (go : State → Outcome B)
      → list_all (is_operand (place program locals own in_loop)) operands ≡ true → unassigned before (flat_map reads_of_operand operands) ≡ [] → Stands program entry entered all mode i n way before s
      → ((t : State) → Stands program entry entered all mode i n way before t → Play B mode i n more (λ handed. go (with_handed t handed))) → Play B mode i n (flat_map (assert_operand way) operands ++ more) (λ handed. after (print_all (modular run depth) (with_handed s handed) operands) go)
  print_then depth locals within in_loop before [] mode i n way s more go is read here h = h s here
  print_then depth locals within in_loop before (Text cs ∷ others) mode i n way s more go is read here h =
      let is = both (is_operand (place program locals own in_loop) (Text cs)) (list_all (is_operand (place program locals own in_loop)) others) is in
      print_then depth locals within in_loop before others mode i n way (printed s (values.Text cs)) more go is.1 read (stands_moves program entry entered all mode mode i i n n way before s (printed s (values.Text cs)) (le_refl n) (moves_here mode i n) (λ x. refl) here) h
  print_then depth locals within in_loop before (Shown ty value ∷ others) mode i n way s more go is read here h =
      let is = both (is_type program ty && is_expr program locals ty value) (list_all (is_operand (place program locals own in_loop)) others) is in
      let read = parted before (reads value) (flat_map reads_of_operand others) read in
      let m = modular run depth in
      let v = meaning i (term_of way.env value) in
      subst (λ said. Play B mode i n said (λ handed. after (print_all m (with_handed s handed) (Shown ty value ∷ others)) go)) (sym (append_assoc (assert_expr way value) (flat_map (assert_operand way) others) more))
      (play_as B mode i n _ _ (λ handed. after (evaluate m (with_handed s handed) value) (λ v. after (print_all m (printed (with_handed s handed) v) others) go)) (λ handed. after_after (evaluate m (with_handed s handed) value) _ go)
      (expr_then B mode i n program m (program_of_modular run depth) here.entered_is.program_is locals all within before way s here.sits here.env here.path value ty (flat_map (assert_operand way) others ++ more)
      (λ handed v. after (print_all m (printed (with_handed s handed) v) others) go) (both (is_type program ty) (is_expr program locals ty value) is.0).1 read.0 (λ one.
      print_then depth locals within in_loop before others mode i n way (printed s v) more go is.1 read.1 (stands_moves program entry entered all mode mode i i n n way before s (printed s v) (le_refl n) (moves_here mode i n) (λ x. refl) here) h)))

  -- ---- loops

  module _ (at : Pos) (guard : Expr) (invariants : List Clause) (decreases : Option (List Measure)) (body : Stmts) (locals : List Ty) (in_loop : Bool) (before : Assigned)
      (within : Within (locals_after_all locals body) all) (is : is_stmt (place program locals own in_loop) (While at guard invariants decreases body) ≡ true) (declared : AreDeclared (length locals) before)
      (missing : (flow own before (While at guard invariants decreases body)).missing ≡ []) where
    abbrev loop : Loop
    loop = record { pos = at; guard = guard; invariants = invariants; decreases = decreases; body = body }

    abbrev turn : Flowing
    turn = flow_all own before body

    parts : (is_expr program locals types.Bool guard ≡ true) × (are_clauses program locals invariants ≡ true) × (is_measured (place program locals own in_loop) guard decreases ≡ true) × (are_stmts (place program locals own true) body ≡ true)
    parts = four (is_expr program locals types.Bool guard) (are_clauses program locals invariants) (is_measured (place program locals own in_loop) guard decreases) (are_stmts (place program locals own true) body) is

    measured_is : (o : Option (List Measure)) → is_measured (place program locals own in_loop) guard o ≡ true → are_measures program locals o ≡ true
    measured_is None h = refl
    measured_is (Some measures) h = h

    asks : (unassigned before (reads guard) ≡ []) × (unassigned before (reads_of_clauses invariants) ≡ []) × (unassigned before (reads_of_measures decreases) ≡ [])
    asks =
        let h = nothing_missing (unassigned before (reads guard ++ reads_of_clauses invariants ++ reads_of_measures decreases)) turn.missing missing in
        let whole = parted before (reads guard ++ reads_of_clauses invariants) (reads_of_measures decreases) h.0 in
        let first = parted before (reads guard) (reads_of_clauses invariants) whole.0 in
        (first.0, first.1, whole.1)

    here_within : Within locals all
    here_within = before_all locals all body within

    there : are_there all (changed_by_all body) ≡ true
    there = all_there (plain_meaning program) own body locals all true within parts.3

    -- the entry checks, where the depth does not reach a turn
    pub shallow_play : (mode : Mode) (i : Interpretation) (n : ℕ) (way : Way) (s : State) (more : List Said) (go : flows.Flow → Outcome B) → (is_taking mode ≡ false → ⊥) → Stands program entry entered all mode i n way before s
        → Play B mode i n ((pass_stmt set way (While at guard invariants decreases body) n).said ++ more) (λ handed. after (execute (modular run 0) (with_handed s handed) (While at guard invariants decreases body)) go)
    shallow_play mode i n way s more go not_following here =
        let m = modular run 0 in
        let entry_said = assert_clauses at_clause Entry way invariants in
        let any = havoc (changed_outside body) n way in
        let measures = loop_measure guard decreases in
        let inside = narrowed any.way (term_of any.way.env guard) in
        let asked = any.said ++ (assume_clauses any.way invariants ++ (assert_expr any.way guard ++ assert_measure inside measures)) in
        let loop_said = (behind_loop at invariants measures (measured inside.env measures) (changed_outside body) (narrowed any.way (negation (term_of any.way.env guard))) (pass_all set inside body any.fresh)).said in
        subst (λ said. Play B mode i n said (λ handed. after (execute m (with_handed s handed) (While at guard invariants decreases body)) go)) (sym (append_assoc (entry_said ++ asked) loop_said more ∙ append_assoc entry_said asked (loop_said ++ more)))
        (play_as B mode i n _ _ (λ handed. after (check_all m (with_handed s handed) Entry invariants) (λ t. TooDeep)) (λ handed. after_after (check_all m (with_handed s handed) Entry invariants) _ go)
        (check_then B mode i n program m refl here.entered_is.program_is locals all here_within before way s here.sits here.env here.path Entry invariants (asked ++ (loop_said ++ more)) (λ handed t. TooDeep) parts.1 asks.1
        (deep_play B mode i n (asked ++ (loop_said ++ more)) not_following)))

    module _ (depth : ℕ) where
      abbrev m : Meaning
      m = modular run depth

      abbrev turned : State → Outcome flows.Flow
      turned u = after (or_dismissed (assume_each m u invariants)) (λ v. turns_with (evaluate m v guard) v (modular_turn m loop v))

      m_is : m.program ≡ program
      m_is = program_of_modular run depth

      turn_play : (mode : Mode) (i : Interpretation) (n : ℕ) (any : Way) (t : State) (more : List Said) (go : flows.Flow → Outcome B) → Stands program entry entered all mode i n any before t
          → ((w : Way) (said : List Said) (on_go : flows.Flow → Outcome B) → Stands program entry entered all mode i n w before t → Onward B all (back own) mode i n (last_of (pass_all set w body n)) turn.behind turn.breaks said on_go
          → Play B (ahead (handed_at_all i set w body n) mode) i n ((pass_all set w body n).said ++ said) (λ handed. after (execute_all m (with_handed t handed) body) on_go))
          → Onward B all (back own) mode i n (last_of (behind_loop at invariants (loop_measure guard decreases) (measured any.env (loop_measure guard decreases)) (changed_outside body) (narrowed any (negation (term_of any.env guard))) (pass_all set (narrowed any (term_of any.env guard)) body n))) (meet before turn.breaks) Unreached more go
          → Play B (ahead (if truth i (term_of any.env guard) then handed_at_all i set (narrowed any (term_of any.env guard)) body n else []) mode) i n (assume_clauses any invariants ++ (assert_expr any guard ++ (assert_measure (narrowed any (term_of any.env guard)) (loop_measure guard decreases) ++ ((behind_loop at invariants (loop_measure guard decreases) (measured any.env (loop_measure guard decreases)) (changed_outside body)
          (narrowed any (negation (term_of any.env guard))) (pass_all set (narrowed any (term_of any.env guard)) body n)).said ++ more)))) (λ handed. after (turned (with_handed t handed)) go)
      turn_play mode i n any t more go here body_play h =
          let changed = changed_outside body in
          let measures = loop_measure guard decreases in
          let g = term_of any.env guard in
          let inside = narrowed any g in
          let outside = narrowed any (negation g) in
          let flow_in = pass_all set inside body n in
          let earlier = measured any.env measures in
          let turn_said = option_map_or (assert_turn at invariants measures earlier) flow_in.way [] in
          let joined_said = (join (any_path (paths_of (outside ∷ flow_in.breaks))) outside.env changed (outside ∷ flow_in.breaks) flow_in.fresh).said in
          let assumed = assume_clauses any invariants in
          let asked = assert_expr any guard in
          let counted = assert_measure inside measures in
          let term_is = term_below n any.env here.env guard in
          let inside_leads = narrowed_leads n any g here.env here.path term_is in
          let flows_body = all_flows set inside body n inside_leads.env inside_leads.path_is here.below in
          let typed_measures = loop_measure_typed program locals guard decreases parts.0 (measured_is decreases parts.2) in
          let read_measures = loop_measure_reads before guard decreases asks.0 asks.2 in
          let reached = here.sits.holds.0 in
          let rest = flow_in.said ++ (turn_said ++ (joined_said ++ more)) in
          let program_is = here.entered_is.program_is in
          let carried = all_carry program own body locals true before parts.3 declared in
          let less = (λ (k : ℕ) (has : has_value before k ≡ true). declared_less before (length locals) k declared reached has) in
          let cover : (k : ℕ) → has_value (meet before turn.breaks) k ≡ true → is_changed changed k ≡ false → AllStay k any.env (outside ∷ flow_in.breaks) = (λ k has e.
          let has = join_left before turn.breaks k reached has in
          let same = outside_is set own k body ((all_declare program own k body locals true parts.3).past (less k has)) e in
          (refl, (all_stay set inside body n k same).breaks)) in
          let kept = (λ (k : ℕ) (has : has_value before k ≡ true). carried.kept k (less k has) has) in
          let values = map (λ (one : Measured). meaning i one.value) earlier in
          let inner = handed_at_all i set inside body n in
          let ones = if truth i g then inner else [] in
          let start = ahead ones mode in
          let starts = stands_ahead program entry entered all ones mode i n any before t here in
          subst (λ said. Play B start i n said (λ handed. after (turned (with_handed t handed)) go))
          (ap (λ r. assumed ++ (asked ++ (counted ++ r))) (sym (three_parts flow_in.said turn_said joined_said more)))
          (play_as B start i n _ _ (λ handed. after (or_dismissed (assume_each m (with_handed t handed) invariants)) (λ v. after (turns_with (evaluate m v guard) v (modular_turn m loop v)) go)) (λ handed. after_after (or_dismissed (assume_each m (with_handed t handed) invariants)) _ go)
          (assume_then B start i n program m m_is program_is locals all here_within before any t starts.sits here.env here.path invariants (asked ++ (counted ++ rest)) (λ handed v. after (turns_with (evaluate m v guard) v (modular_turn m loop v)) go) parts.1 asks.1
          (play_as B start i n _ _ (λ handed. after (evaluate m (with_handed t handed) guard) (λ v. after (if truth_of v then modular_turn m loop (with_handed t handed) else Gives (flows.Next (with_handed t handed))) go)) (λ handed. after_after (evaluate m (with_handed t handed) guard) _ go)
          (expr_then B start i n program m m_is program_is locals all here_within before any t starts.sits here.env here.path guard types.Bool (counted ++ rest) (λ handed v. after (if truth_of v then modular_turn m loop (with_handed t handed) else Gives (flows.Next (with_handed t handed))) go) parts.0 asks.0 (λ one.
          decide B flows.Flow mode inner [] i n (counted ++ rest) (λ handed. modular_turn m loop (with_handed t handed)) (λ handed. Gives (flows.Next (with_handed t handed))) go (truth i g)
          (λ is_true.
          let sits : Sits mode i all inside before t = record { there = narrowed_true i any.path g here.sits.there ∙ is_true; sorted = here.sits.sorted; holds = here.sits.holds; set = here.sits.set; present = here.sits.present } in
          let here_inside : Stands program entry entered all mode i n inside before t = record { env = here.env; path = inside_leads.path_is; below = here.below; entered_is = here.entered_is; sits = sits } in
          play_as B (ahead inner mode) i n _ _ (λ handed. after (measure_values m (with_handed t handed) measures) (λ now. after (execute_all m (with_handed t handed) body) (λ f. after (behind_once m loop now f) go)))
          (λ handed. after_after (measure_values m (with_handed t handed) measures) _ go ∙ then_same (measure_values m (with_handed t handed) measures) _ _ (λ now. after_after (execute_all m (with_handed t handed) body) (behind_once m loop now) go))
          (measures_then B (ahead inner mode) i n program m m_is program_is locals all here_within before inside t (stands_ahead program entry entered all inner mode i n inside before t here_inside).sits here.env inside_leads.path_is measures rest (λ handed now. after (execute_all m (with_handed t handed) body) (λ f. after (behind_once m loop now f) go)) typed_measures read_measures (λ are.
          body_play inside (turn_said ++ (joined_said ++ more)) (λ f. after (behind_once m loop values f) go) here_inside
          (inside_onward B all (back own) program m m_is locals here_within loop mode i n any changed flow_in before turn.behind turn.breaks more go program_is here.env here.path term_is flows_body parts.1 asks.1 typed_measures read_measures here.sits.sorted
          (outside_there all body there) here.sits.there cover reached kept h is_true are))))
          (λ is_false.
          play_behind B mode i n counted rest (λ handed. go (flows.Next (with_handed t handed))) (λ j same. (measure_proper n inside inside_leads.path_is here.env measures).off j
          (sym (path_same n i j same inside.path inside_leads.path_is) ∙ (narrowed_true i any.path g here.sits.there ∙ is_false)))
          (outside_play B all (back own) program m m_is locals here_within loop mode i n any changed flow_in before turn.behind turn.breaks more go program_is here.env here.path term_is flows_body parts.1 asks.1 typed_measures read_measures here.sits.sorted
          (outside_there all body there) here.sits.there cover reached kept h t is_false here.sits)))))))

      pub while_play : (mode : Mode) (i : Interpretation) (n : ℕ) (way : Way) (s : State) (more : List Said) (go : flows.Flow → Outcome B) → Stands program entry entered all mode i n way before s
          → ((k : Mode) (j : Interpretation) (fresh : ℕ) (w : Way) (t : State) (said : List Said) (on_go : flows.Flow → Outcome B) → is_taking mode ≡ is_taking k → Stands program entry entered all k j fresh w before t → Onward B all (back own) k j fresh (last_of (pass_all set w body fresh)) turn.behind turn.breaks said on_go
          → Play B (ahead (handed_at_all j set w body fresh) k) j fresh ((pass_all set w body fresh).said ++ said) (λ handed. after (execute_all m (with_handed t handed) body) on_go))
          → Onward B all (back own) mode i n (last_of (pass_stmt set way (While at guard invariants decreases body) n)) (meet before turn.breaks) Unreached more go
          → Play B (ahead (handed_at i set way (While at guard invariants decreases body) n) mode) i n ((pass_stmt set way (While at guard invariants decreases body) n).said ++ more) (λ handed. after (execute (modular run (suc depth)) (with_handed s handed) (While at guard invariants decreases body)) go)
      while_play mode i n way s more go here body_play h =
          let upper = modular run (suc depth) in
          let any = havoc (changed_outside body) n way in
          let measures = loop_measure guard decreases in
          let g = term_of any.way.env guard in
          let inside = narrowed any.way g in
          let loop_said = (behind_loop at invariants measures (measured any.way.env measures) (changed_outside body) (narrowed any.way (negation g)) (pass_all set inside body any.fresh)).said in
          let entry_said = assert_clauses at_clause Entry way invariants in
          let assumed = assume_clauses any.way invariants in
          let asked = assert_expr any.way guard in
          let counted = assert_measure inside measures in
          let going = havoc_going (changed_outside body) n way here.env here.path in
          let below = measure_grows n any.fresh entry going.made.grows here.below in
          let reached = here.sits.holds.0 in
          let rest = assumed ++ (asked ++ (counted ++ (loop_said ++ more))) in
          let behind = (λ (u : Interpretation). if truth u g then handed_at_all u set inside body any.fresh else []) in
          let later = ahead (behind i) mode in
          let ones = turn_in i (changed_outside body) any.way ∷ behind i in
          let start = ahead ones mode in
          subst (λ said. Play B start i n said (λ handed. after (execute upper (with_handed s handed) (While at guard invariants decreases body)) go)) (sym (while_parts entry_said any.said assumed asked counted loop_said more))
          (play_as B start i n _ _ (λ handed. after (check_all upper (with_handed s handed) Entry invariants) (λ t. after (modular_turns m loop t) go)) (λ handed. after_after (check_all upper (with_handed s handed) Entry invariants) _ go)
          (check_then B start i n program upper refl here.entered_is.program_is locals all here_within before way s (stands_ahead program entry entered all ones mode i n way before s here).sits here.env here.path Entry invariants (any.said ++ rest) (λ handed t. after (modular_turns m loop t) go) parts.1 asks.1
          (play_as B start i n _ _ (λ handed. after (handed_turn program (changed_by_all body) (with_handed s handed) handed) (λ u. after (turned u) go))
          (λ handed. after_after (handed_turn m.program (changed_by_all body) (with_handed s handed) handed) turned go ∙ ap (λ q. after (handed_turn q (changed_by_all body) (with_handed s handed) handed) (λ u. after (turned u) go)) m_is)
          (turn_then B program all n way s before (declared_by_all body) (changed_by_all body) here.env here.path there
          (λ k has c. once_there (declared_by_all body) (changed_by_all body) k ((all_declare program own k body locals true parts.3).past (declared_less before (length locals) k declared reached has)) c)
          later i rest (λ u. after (turned u) go) here.entered_is.program_is well (types_there program all (changed_by_all body) all_types there) going.made.grows going.made.said.below (stands_ahead program entry entered all (behind i) mode i n way before s here).sits (λ k j t moves sits.
          resume (λ from. Play B from j any.fresh rest (λ handed. after (turned (with_handed t handed)) go)) behind mode i n k j moves (λ from here_on kind.
          turn_play from j any.fresh any.way t more go
          (record { env = going.way.env; path = going.way.path_is; below = below; entered_is = entered_moves program entry entered n i j moves.same here.below here.entered_is; sits = sits_as k from j all any.way before t kind sits })
          (λ w said on_go here_in on. body_play from j any.fresh w t said on_go here_on.mode here_in on)
          (record { on = λ l u f moved comes. h.on l u f (moves_then mode from l i j u n any.fresh going.made.grows here_on moved) comes; over = λ u same ways breaks returns loses. h.over u (same_then n any.fresh i j u going.made.grows moves.same same) ways breaks returns loses })))))))
