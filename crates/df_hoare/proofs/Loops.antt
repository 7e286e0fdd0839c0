-- Loops: each turn goes on as the modular run to which its head is handed in, and measures end them.
use Rattle.std.proofs.Common.{◌≡◌, ◌≤◌, ℕ, zero, suc, Bool, true, false, if◌then◌else◌, List, [], ◌∷◌, map, length, refl, sym, ap, subst, le_of_eq}
use mathlib.Core.WellFounded.{Acc}
use Rattle.df_base.specs.declared.pos.Pos.{Pos}
use Rattle.df_lang.specs.declared.ty.Ty.{Ty}
use Rattle.df_lang.specs.Expr.{Expr}
use Rattle.df_lang.specs.Stmt.{Measure}
use Rattle.df_lang.specs.Program.{Method, Program}
use Rattle.df_lang.specs.Measures.{loop_measure}
use Rattle.df_lang.specs.Typing.{locals_after_all, are_stmts}
use Rattle.df_meaning.specs.declared.kind.Kind.TheVariants as kinds
use Rattle.df_meaning.specs.Value.{Value, truth_of}
use Rattle.df_meaning.specs.Outcome.{Outcome, Gives, Wrong, TooDeep, Dismissed, after}
use Rattle.df_meaning.specs.State.{Handed, State}
use Rattle.df_meaning.specs.Meaning.{Meaning, Flow, Loop, state_of}
use Rattle.df_meaning.specs.Meaning as flows
use Rattle.df_meaning.specs.Evaluation.{evaluate}
use Rattle.df_meaning.specs.Execution.{evaluate_all, check_all, execute_all}
use Rattle.df_meaning.specs.Whole.{behind_turn, turn_by, turns_with}
use Rattle.df_meaning.specs.Order.{are_below}
use Rattle.df_meaning.specs.Modular.{check_below, changed_by_all, Running, plain_meaning, behind_once, modular_turn, modular}
use Rattle.df_meaning.specs.Growing.{◌⊑◌}
use Rattle.df_meaning.specs.Typed.{AreTyped}
use Rattle.df_meaning.proofs.Outcomes.{same_grows, after_grows, choice_grows}
use Rattle.df_meaning.proofs.Executing.{values_grow, all_grow}
use Rattle.df_meaning.proofs.Modulars.{program_of_modular, behind_grows, once_grows, modulars_grow}
use Rattle.df_meaning.proofs.Cases.{IfGives, after_gives, after_any, given}
use Rattle.df_meaning.proofs.Same.{evaluate_same}
use Rattle.df_meaning.proofs.Stating.{Within, FlowTyped, IsMeaningTyped, checked_same, stmts_typed}
use Rattle.df_meaning.proofs.Kept.{AgreesBut, FlowAgrees, Covers, KeepsTurns, all_kept, then_agrees}
use Rattle.df_meaning.specs.Agreement.{is_changed}
use Rattle.df_meaning.proofs.Changing.{are_there, anything, body_included, all_there}
use Rattle.df_hoare.proofs.Measured.{measured_turn, measured}
use Rattle.df_hoare.proofs.Running.{Reaches, Runs, given_is, runs_steady, runs_same, later, runs_later, runs_after}
use Rattle.df_hoare.proofs.Simulating.{IsSafe, Follows, Simulates, keep, first_safe, then_safe, then_follows, read_safe, behind_safe, read_follows}
use Rattle.df_hoare.proofs.Sides.{hand_state, hand_flow, AreSides, value_simulates, value_free, values_simulate, values_free, checks_simulate}
use Rattle.df_hoare.proofs.Clauses.{IsMet, seen_alike, met_by_check}
use Rattle.df_hoare.proofs.Order.{FallsBelow, lists_end}
use Rattle.df_hoare.proofs.Measuring.{program_of_measured, measureds_grow}
use Rattle.df_hoare.proofs.Sources.{place}
use Rattle.df_hoare.proofs.Statements.{LoopsSimulate}
use Rattle.df_hoare.proofs.Heads.{IsHead, from_guard, from_entry, guard_safe, from_head}

-- measured runs beside modular ones
pub sides_of : (run : Running) → AreSides run.program (measured run.program) (modular run)
sides_of run = record { wholes = program_of_measured run.program; modulars = program_of_modular run; wholes_grow = measureds_grow run.program; modulars_grow = modulars_grow run }

-- as many values as expressions
lengths : (m : Meaning) (s : State) (es : List Expr) → IfGives (λ (vs : List Value). length vs ≡ length es) (evaluate_all m s es)
lengths m s [] = refl
lengths m s (e ∷ es) =
    after_any (λ (vs : List Value). length vs ≡ suc (length es)) (evaluate m s e) _ (λ v.
    after_gives (λ (ws : List Value). length ws ≡ length es) (λ (vs : List Value). length vs ≡ suc (length es)) (evaluate_all m s es) _ (lengths m s es) (λ ws h. ap suc h))

pub values_length : (m : Meaning) (s : State) (es : List Expr) (vs : List Value) → evaluate_all m s es ≡ Gives vs → length vs ≡ length es
values_length m s es vs e = given (λ (ws : List Value). length ws ≡ length es) (evaluate_all m s es) vs (lengths m s es) e

-- a decrease that is never wrong is one
pub below_safe : (pos : Pos) (now before : List Value) → (check_below pos now before ≡ Wrong pos kinds.Decreases → ⊥) → are_below now before ≡ true
below_safe pos now before never = by_test (are_below now before) never
  where
    by_test : (b : Bool) → ((if b then Gives now else Wrong pos kinds.Decreases) ≡ Wrong pos kinds.Decreases → ⊥) → b ≡ true
    by_test true never = refl
    by_test false never = absurd (never refl)

covers_anything : (may : ℕ → Bool) → Covers may anything
covers_anything may n e = absurd (let f : true ≡ false = e in cc)

-- the measure of a loop, as expressions
abbrev measure_of : Loop → List Expr
measure_of loop = map (λ (measure : Measure). measure.value) (loop_measure loop.guard loop.decreases)

module _ (run : Running) (typed_sides : (n : ℕ) → IsMeaningTyped (measured run.program n)) (keeps : (n : ℕ) → KeepsTurns (measured run.program n))
    (locals all : List Ty) (own : Method) (loop : Loop) (placed : are_stmts (place run.program locals own true) loop.body ≡ true) (within : Within (locals_after_all locals loop.body) all)
    (there : are_there all (changed_by_all loop.body) ≡ true)
    (body : (t : State) → AreTyped run.program all t → Simulates hand_flow (λ n. execute_all (measured run.program n) t loop.body) (λ d h. execute_all (modular run d) (hand_state h t) loop.body))
    (entry : State) (safe : IsSafe (from_entry run all loop entry there)) where
  abbrev W : ℕ → Meaning
  W n = measured run.program n

  abbrev M : ℕ → Meaning
  M d = modular run d

  abbrev Head : State → Type 0
  Head s = IsHead run.program all loop entry s

  -- what the loop gives, the modular run gives from its entry
  abbrev Goal : Flow → Type 0
  Goal x = Follows hand_flow (from_entry run all loop entry there) x

  -- what measures at heads are
  abbrev Measures : State → List Value → Type 0
  Measures s now = Reaches (λ n. evaluate_all (W n) s (measure_of loop)) now

  abbrev Falls : List Value → List Value → Type 0
  Falls now before = FallsBelow (length (measure_of loop)) now before

  -- the turns from there run
  abbrev TurnsRun : State → Type 0
  TurnsRun s = Runs (λ n. (W n).turns loop s) Goal

  -- and so from each head that comes behind a turn
  abbrev Onward : List Value → Type 0
  Onward before = (t : State) → Head t → ((now : List Value) → Measures t now → Falls now before) → TurnsRun t

  flow_typed : (s : State) → AreTyped run.program all s → (flow : Flow) → Reaches (λ n. execute_all (W n) s loop.body) flow → AreTyped run.program all (state_of flow)
  flow_typed s typed flow c =
      subst (λ (p : Program). AreTyped p all s → are_stmts (place p locals own true) loop.body ≡ true → AreTyped p all (state_of flow)) (program_of_measured run.program c.depth)
      (λ t i. given (FlowTyped (W c.depth) all) (execute_all (W c.depth) s loop.body) flow (stmts_typed (W c.depth) (typed_sides c.depth) loop.body locals all own true s within t i) c.gives) typed placed

  flow_agrees : (s : State) (flow : Flow) → Reaches (λ n. execute_all (W n) s loop.body) flow → FlowAgrees (is_changed (changed_by_all loop.body)) anything s flow
  flow_agrees s flow c =
      given (FlowAgrees (is_changed (changed_by_all loop.body)) anything s) (execute_all (W c.depth) s loop.body) flow
      (all_kept (W c.depth) (keeps c.depth) (is_changed (changed_by_all loop.body)) anything (covers_anything (is_changed (changed_by_all loop.body))) loop.body s (body_included loop.body)) c.gives

  -- ---- behind a turn

  -- what is checked there
  abbrev checked_at : State → ℕ → List Handed → Outcome State
  checked_at t d h = check_all (M d) (hand_state h t) kinds.Turn loop.invariants

  abbrev measured_behind : List Value → ℕ → State → Outcome Flow
  measured_behind before d u = after (evaluate_all (M d) u (measure_of loop)) (λ now. after (check_below loop.pos now before) (λ checked. Dismissed))

  measured_deeper : (before : List Value) (d e : ℕ) (u : State) → d ≤ e → measured_behind before d u ⊑ measured_behind before e u
  measured_deeper before d e u le = after_grows _ _ _ _ (values_grow (M d) (M e) (modulars_grow run d e le) u (measure_of loop)) (λ now. same_grows (after (check_below loop.pos now before) (λ checked. Dismissed)))

  -- the measure has fallen
  fallen : (before : List Value) (t : State) → IsSafe (λ d h. measured_behind before d (hand_state h t)) → (now : List Value) → Measures t now → Falls now before
  fallen before t safe_there now c =
      let M_now : ℕ → List Handed → Outcome (List Value) = λ d h. evaluate_all (M d) (hand_state h t) (measure_of loop) in
      let C : ℕ → List Handed → List Value → Outcome Flow = λ d h x. after (check_below loop.pos x before) (λ checked. Dismissed) in
      let free : (d : ℕ) (h : List Handed) → M_now d h ≡ M_now d [] = values_free run.program W M (sides_of run) t (measure_of loop) in
      let deeper : (d e : ℕ) (h : List Handed) (x : List Value) → d ≤ e → C d h x ⊑ C e h x = λ d e h x le. same_grows (C d h x) in
      let r : Runs (λ n. evaluate_all (W n) t (measure_of loop)) (Follows keep M_now) = (values_simulate run.program W M (sides_of run) t (measure_of loop)).runs (read_safe hand_flow M_now C free deeper safe_there) in
      let checked : IsSafe (λ d h. C d h now) = behind_safe hand_flow M_now C free deeper safe_there now (r.gives now c) in
      record {
        short = le_of_eq (values_length (W c.depth) t (measure_of loop) now c.gives);
        below = below_safe loop.pos now before (λ e. checked.never 0 [] loop.pos kinds.Decreases (ap (λ o. after o (λ x. Dismissed)) e));
      }

  -- the next head
  next_runs : (before : List Value) → Onward before → (s t : State) → Head s → AreTyped run.program all t → AgreesBut (is_changed (changed_by_all loop.body)) s t
      → IsSafe (λ d h. after (checked_at t d h) (measured_behind before d)) → Runs (λ n. after (check_all (W n) t kinds.Turn loop.invariants) (λ u. (W n).turns loop u)) Goal
  next_runs before onward s t head typed agrees safe_there =
      runs_after (λ n. check_all (W n) t kinds.Turn loop.invariants) (Follows hand_state (checked_at t)) (λ n u. (W n).turns loop u) Goal
      ((checks_simulate run.program W M (sides_of run) t kinds.Turn loop.invariants).runs (first_safe hand_state hand_flow (checked_at t) (measured_behind before) (measured_deeper before) safe_there)) (λ u c f.
      let same : u ≡ t = given (λ (x : State). x ≡ t) (check_all (W c.depth) t kinds.Turn loop.invariants) u (checked_same (W c.depth) t kinds.Turn loop.invariants) c.gives in
      let met : IsMet run.program t loop.invariants =
      met_by_check (W c.depth) (plain_meaning run.program) t t u kinds.Turn loop.invariants
      (seen_alike (W c.depth) (plain_meaning run.program) t t (record { program = program_of_measured run.program c.depth; locals = λ local. refl }) loop.invariants) c.gives in
      let here : Head t = record { typed = typed; agrees = then_agrees (is_changed (changed_by_all loop.body)) entry s t head.agrees agrees; met = met } in
      let follows : Follows hand_state (checked_at t) t = subst (λ (x : State). Follows hand_state (checked_at t) x) same f in
      subst TurnsRun (sym same) (onward t here (fallen before t (then_safe hand_state hand_flow (checked_at t) (measured_behind before) (measured_deeper before) safe_there t follows))))

  -- what a flow that is given at once comes to
  given_runs : (x : Flow) → Goal x → Runs (λ n. Gives x) Goal
  given_runs x goal = runs_steady (Gives x) Goal (λ e. cc) (λ at kind e. cc) (λ y e. subst Goal (given_is x y e) goal)

  behind_runs : (before : List Value) → Onward before → (s : State) → Head s → (flow : Flow) → AreTyped run.program all (state_of flow) → FlowAgrees (is_changed (changed_by_all loop.body)) anything s flow
      → IsSafe (λ d h. behind_once (M d) loop before (hand_flow h flow)) → ((x : Flow) → Follows hand_flow (λ d h. behind_once (M d) loop before (hand_flow h flow)) x → Goal x) → Runs (λ n. behind_turn (W n) loop flow) Goal
  behind_runs before onward s head (flows.Next t) typed agrees safe_there goal = next_runs before onward s t head typed agrees safe_there
  behind_runs before onward s head (flows.Return t) typed agrees safe_there goal = given_runs (flows.Return t) (goal (flows.Return t) (record { front = []; depth = 0; by = λ d more le. refl }))
  behind_runs before onward s head (flows.Break t) typed agrees safe_there goal = given_runs (flows.Next t) (goal (flows.Next t) (record { front = []; depth = 0; by = λ d more le. refl }))

  -- ---- a turn

  abbrev once : State → List Value → ℕ → List Handed → Outcome Flow
  once s before d h = after (execute_all (M d) (hand_state h s) loop.body) (behind_once (M d) loop before)

  turn_runs : (before : List Value) → Onward before → (s : State) → Head s → IsSafe (once s before) → ((x : Flow) → Follows hand_flow (once s before) x → Goal x) → Runs (λ n. turn_by (W n) loop s) Goal
  turn_runs before onward s head safe_there goal =
      let B : ℕ → List Handed → Outcome Flow = λ d h. execute_all (M d) (hand_state h s) loop.body in
      let C : ℕ → Flow → Outcome Flow = λ d flow. behind_once (M d) loop before flow in
      let deeper : (d e : ℕ) (flow : Flow) → d ≤ e → C d flow ⊑ C e flow = λ d e flow le. behind_grows (M d) (M e) (modulars_grow run d e le) loop before flow in
      runs_after (λ n. execute_all (W n) s loop.body) (Follows hand_flow B) (λ n flow. behind_turn (W n) loop flow) Goal ((body s head.typed).runs (first_safe hand_flow hand_flow B C deeper safe_there)) (λ flow c f.
      behind_runs before onward s head flow (flow_typed s head.typed flow c) (flow_agrees s flow c) (then_safe hand_flow hand_flow B C deeper safe_there flow f)
      (λ x g. goal x (then_follows hand_flow hand_flow B C deeper x flow f g)))

  measured_runs : (s : State) → Head s → ((before : List Value) → Measures s before → Onward before) → IsSafe (λ d h. modular_turn (M d) loop (hand_state h s))
      → ((x : Flow) → Follows hand_flow (λ d h. modular_turn (M d) loop (hand_state h s)) x → Goal x) → Runs (λ n. measured_turn (W n) loop s) Goal
  measured_runs s head onward safe_there goal =
      let B : ℕ → List Handed → Outcome (List Value) = λ d h. evaluate_all (M d) (hand_state h s) (measure_of loop) in
      let C : ℕ → List Handed → List Value → Outcome Flow = λ d h before. once s before d h in
      let free : (d : ℕ) (h : List Handed) → B d h ≡ B d [] = values_free run.program W M (sides_of run) s (measure_of loop) in
      let deeper : (d e : ℕ) (h : List Handed) (before : List Value) → d ≤ e → C d h before ⊑ C e h before =
      λ d e h before le. after_grows _ _ _ _ (all_grow (M d) (M e) (modulars_grow run d e le) (hand_state h s) loop.body) (λ flow. behind_grows (M d) (M e) (modulars_grow run d e le) loop before flow) in
      runs_after (λ n. evaluate_all (W n) s (measure_of loop)) (Follows keep B) (λ n before. turn_by (W n) loop s) Goal
      ((values_simulate run.program W M (sides_of run) s (measure_of loop)).runs (read_safe hand_flow B C free deeper safe_there)) (λ before c f.
      turn_runs before (onward before c) s head (behind_safe hand_flow B C free deeper safe_there before f) (λ x g. goal x (read_follows hand_flow B C free deeper x before f g)))

  -- ---- from a head on

  abbrev turns_later : State → ℕ → Outcome Flow
  turns_later s n = later (λ k. measured_turn (W k) loop s) n

  turns_are : (s : State) (n : ℕ) → (W n).turns loop s ≡ turns_with (evaluate (W n) s loop.guard) s (turns_later s n)
  turns_are s zero = ap (λ o. turns_with o s TooDeep) (evaluate_same _ (W zero) s s (record { program = refl; locals = λ local. refl }) loop.guard)
  turns_are s (suc n) = ap (λ o. turns_with o s (measured_turn (W n) loop s)) (evaluate_same _ (W (suc n)) s s (record { program = refl; locals = λ local. refl }) loop.guard)

  abbrev guarded : State → Bool → ℕ → List Handed → Outcome Flow
  guarded s b d h = if b then modular_turn (M d) loop (hand_state h s) else Gives (flows.Next (hand_state h s))

  guarded_runs : (s : State) → Head s → ((before : List Value) → Measures s before → Onward before) → (b : Bool) → IsSafe (guarded s b) → ((x : Flow) → Follows hand_flow (guarded s b) x → Goal x)
      → Runs (λ n. if b then turns_later s n else Gives (flows.Next s)) Goal
  guarded_runs s head onward true safe_there goal = runs_later (λ k. measured_turn (W k) loop s) Goal (measured_runs s head onward safe_there goal)
  guarded_runs s head onward false safe_there goal = given_runs (flows.Next s) (goal (flows.Next s) (record { front = []; depth = 0; by = λ d more le. refl }))

  runs_from : (s : State) → Head s → ((before : List Value) → Measures s before → Onward before) → TurnsRun s
  runs_from s head onward =
      let B : ℕ → List Handed → Outcome Value = λ d h. evaluate (M d) (hand_state h s) loop.guard in
      let C : ℕ → List Handed → Value → Outcome Flow = λ d h v. guarded s (truth_of v) d h in
      let free : (d : ℕ) (h : List Handed) → B d h ≡ B d [] = value_free run.program W M (sides_of run) s loop.guard in
      let deeper : (d e : ℕ) (h : List Handed) (v : Value) → d ≤ e → C d h v ⊑ C e h v =
      λ d e h v le. choice_grows (truth_of v) _ _ _ _ (once_grows (M d) (M e) (modulars_grow run d e le) loop (hand_state h s)) refl in
      let safe_there : IsSafe (from_guard run all loop entry there s) = guard_safe run all loop entry there safe s head in
      runs_same (λ n. (W n).turns loop s) (λ n. turns_with (evaluate (W n) s loop.guard) s (turns_later s n)) Goal (turns_are s)
      (runs_after (λ n. evaluate (W n) s loop.guard) (Follows keep B) (λ n v. if truth_of v then turns_later s n else Gives (flows.Next s)) Goal
      ((value_simulates run.program W M (sides_of run) s loop.guard).runs (read_safe hand_flow B C free deeper safe_there)) (λ v c f.
      guarded_runs s head onward (truth_of v) (behind_safe hand_flow B C free deeper safe_there v f)
      (λ x g. from_head run all loop entry there s head x (read_follows hand_flow B C free deeper x v f g))))

  -- ---- measures end it

  below_runs : (before : List Value) → Acc Falls before → Onward before
  below_runs before (Acc.intro here falls) t head fell = runs_from t head (λ now c u head_u fell_u. below_runs now (falls now (fell now c)) u head_u fell_u)

  pub entry_runs : Head entry → TurnsRun entry
  entry_runs head = runs_from entry head (λ before c u head_u fell_u.
      below_runs before (lists_end (length (measure_of loop)) before (le_of_eq (values_length (W c.depth) entry (measure_of loop) before c.gives))) u head_u fell_u)

-- ---- all loops

-- the types of what a body changes; of a meaning the program alone counts
loop_there : (program : Program) (locals all : List Ty) (own : Method) (loop : Loop) → are_stmts (place program locals own true) loop.body ≡ true → Within (locals_after_all locals loop.body) all → are_there all (changed_by_all loop.body) ≡ true
loop_there program locals all own loop placed within = all_there (plain_meaning program) own loop.body locals all true within placed

pub loops_simulate : (run : Running) → ((n : ℕ) → IsMeaningTyped (measured run.program n)) → ((n : ℕ) → KeepsTurns (measured run.program n)) → LoopsSimulate run.program (measured run.program) (modular run)
loops_simulate run typed_sides keeps = record {
  loop = λ locals all own loop s placed within typed met body.
      let there : are_there all (changed_by_all loop.body) ≡ true = loop_there run.program locals all own loop placed within in
      record { runs = λ safe. entry_runs run typed_sides keeps locals all own loop placed within there body s safe (record { typed = typed; agrees = λ n outside. refl; met = met }) };
}
