-- Calls: a callee that comes to an end goes together with the modular call to which its results are handed in.
use Rattle.std.proofs.Common.{◌≡◌, ◌≤◌, ◌<◌, ℕ, zero, suc, max, ◌==◌, Bool, true, false, if◌then◌else◌, ◌⊎◌, inl, inr, List, [], ◌∷◌, ◌++◌, map, Some, refl, sym, ap, subst, ◌∙◌, eqb-true, arith}
use Rattle.std.proofs.lemmas.Bool.{eqb-false}
use Rattle.df_base.specs.declared.pos.Pos.{Pos}
use Rattle.df_lang.specs.Expr.{Expr}
use Rattle.df_lang.specs.Stmt.{Measure}
use Rattle.df_lang.specs.Program.{Method, Program, method_at, types_of}
use Rattle.df_lang.specs.Measures.{method_measure}
use Rattle.df_lang.specs.Typing.{is_method, is_well_typed}
use Rattle.df_lang.specs.Groups.{group_at}
use Rattle.df_meaning.specs.declared.kind.Kind.TheVariants as kinds
use Rattle.df_meaning.specs.Value.{Value}
use Rattle.df_meaning.specs.Types.{have_types}
use Rattle.df_meaning.specs.Outcome.{Outcome, Gives, Wrong, TooDeep, Dismissed, after}
use Rattle.df_meaning.specs.State.{Handed, Given, Store, State, begin}
use Rattle.df_meaning.specs.Meaning.{Meaning, Returned}
use Rattle.df_meaning.specs.Execution.{evaluate_all}
use Rattle.df_meaning.specs.Whole.{check_call, results_of, run_body, run_method}
use Rattle.df_meaning.specs.Order.{are_below}
use Rattle.df_meaning.specs.Modular.{or_dismissed, check_below, handed_results, Running, plain_meaning, check_decrease, assume_returned, modular}
use Rattle.df_meaning.specs.Growing.{◌⊑◌}
use Rattle.df_meaning.proofs.Outcomes.{same_grows, after_grows}
use Rattle.df_meaning.proofs.Executing.{values_grow, method_grows}
use Rattle.df_meaning.proofs.Cases.{given}
use Rattle.df_meaning.proofs.Stating.{IsMeaningTyped}
use Rattle.df_meaning.proofs.Wholes.{method_typed, owed_same}
use Rattle.df_meaning.proofs.Kept.{KeepsTurns}
use Rattle.df_hoare.proofs.Measured.{measured_method, measured}
use Rattle.df_hoare.proofs.Running.{Runs, stays, stays_wrong, given_is, one_answer, later, runs_later, runs_after}
use Rattle.df_hoare.proofs.Simulating.{IsSafe, Follows, Simulates, keep, simulates_same, read_safe, behind_safe}
use Rattle.df_hoare.proofs.Sides.{hand_store, hand_state, hand_returned, AreSides, all_same, values_simulate, values_free, owed_simulate}
use Rattle.df_hoare.proofs.Clauses.{IsMet, seen_alike, met_by_call, call_by_met}
use Rattle.df_hoare.proofs.Measuring.{program_of_measured, found_is, measureds_grow, results_typed}
use Rattle.df_hoare.proofs.Loops.{below_safe}
use Rattle.df_hoare.proofs.Returned.{bound_gives, owed_met}
use Rattle.df_hoare.proofs.Sources.{CallsSimulate}

-- the measure of a method, as expressions
abbrev pub measure_of : Method → List Expr
measure_of method = map (λ (measure : Measure). measure.value) (method_measure method)

-- at some depth the measured run of the method gives this, wherever it is called
pub record Comes (program : Program) (method : Method) (arguments : List Value) (store : Store) : Type 0 where
  pub depth : ℕ
  pub returned : Returned
  pub ends : (at : Pos) → measured_method (measured program depth) at method arguments store ≡ Gives returned

-- the measure of the callee is below that of the declaration that runs
pub record FallsTo (program : Program) (method : Method) (arguments : List Value) (store : Store) (entry : List Value) : Type 0 where
  pub now : List Value
  pub is_now : evaluate_all (plain_meaning program) (begin arguments store) (measure_of method) ≡ Gives now
  pub below : are_below now entry ≡ true

-- Callees of earlier groups come to an end, and those of the same group whose measure is below.
pub record CalleesCome (run : Running) : Type 0 where
  pub comes : (callee : ℕ) (method : Method) (arguments : List Value) (store : Store) → method_at run.program callee ≡ Some method → have_types run.program (types_of method.parameters) arguments ≡ true
      → IsMet run.program (begin arguments store) method.preconditions
      → (group_at run.groups callee < group_at run.groups run.number) ⊎ ((group_at run.groups callee ≡ group_at run.groups run.number) × FallsTo run.program method arguments store run.entry)
      → Comes run.program method arguments store

-- a callee of a group that is no later
abbrev pub IsNoLater : Running → ℕ → Type 0
IsNoLater run callee = group_at run.groups callee ≤ group_at run.groups run.number

-- contracts of callees are evaluated over the plain meaning
plain_sides : (program : Program) → AreSides program (measured program) (λ d. plain_meaning program)
plain_sides program = record {
  wholes = program_of_measured program;
  modulars = λ d. refl;
  wholes_grow = measureds_grow program;
  modulars_grow = λ d e le. record { program = refl; call = λ at callee arguments store. refl; turns = λ loop s. same_grows _ };
}

-- what grows and gives this runs
runs_to : {X : Type 0} (F : ℕ → Outcome X) (P : X → Type 0) (k : ℕ) (x : X) → ((n m : ℕ) → n ≤ m → F n ⊑ F m) → F k ≡ Gives x → P x → Runs F P
runs_to F P k x grows gives goal = record {
  grows = grows;
  right = λ n at kind e.
      let both = max n k in
      let wrong : F both ≡ Wrong at kind = stays_wrong (F n) (F both) at kind (grows n both (omega arith)) e in
      let good : F both ≡ Gives x = stays (F k) (F both) x (grows k both (omega arith)) gives in
      let clash : Gives x ≡ Wrong at kind = sym good ∙ wrong in cc;
  ends = record { depth = k; not_too_deep = λ e. let clash : Gives x ≡ TooDeep = sym gives ∙ e in cc };
  gives = λ y c. subst P (one_answer F x y grows (record { depth = k; gives = gives }) c) goal;
}

module _ (run : Running) (well : is_well_typed run.program ≡ true) (typed_sides : (n : ℕ) → IsMeaningTyped (measured run.program n)) (keeps : (n : ℕ) → KeepsTurns (measured run.program n)) (known : CalleesCome run)
    (at : Pos) (callee : ℕ) (method : Method) (arguments : List Value) (store : Store) (there : method_at run.program callee ≡ Some method)
    (typed : have_types run.program (types_of method.parameters) arguments ≡ true) (no_later : IsNoLater run callee) where
  abbrev W : ℕ → Meaning
  W n = measured run.program n

  abbrev plain : Meaning
  plain = plain_meaning run.program

  abbrev start : State
  start = begin arguments store

  -- ---- the modular call

  abbrev decreased : List Handed → Outcome (List Value)
  decreased h = check_decrease run at callee method (hand_state h start)

  abbrev handed_over : List Handed → Outcome Returned
  handed_over h = after (handed_results run.program method h) (assume_returned run.program method arguments)

  abbrev behind_owed : ℕ → List Handed → Outcome Returned
  behind_owed d h = after (decreased h) (λ now. handed_over h)

  abbrev modular_method : ℕ → List Handed → Outcome Returned
  modular_method d h = after (check_call plain (hand_state h start) at method.preconditions) (λ s. after (check_decrease run at callee method s) (λ now. handed_over h))

  calls_are : (d : ℕ) (h : List Handed) → (modular run d).call at callee arguments (hand_store h store) ≡ modular_method d h
  calls_are zero h = found_is run.program run.program callee method _ refl there
  calls_are (suc d) h = found_is run.program run.program callee method _ refl there

  checks_out : IsMet run.program start method.preconditions → (h : List Handed) → check_call plain (hand_state h start) at method.preconditions ≡ Gives (hand_state h start)
  checks_out met h = call_by_met plain plain start (hand_state h start) start at method.preconditions (seen_alike plain plain start (hand_state h start) (record { program = refl; locals = λ local. refl }) method.preconditions) met

  opened : IsMet run.program start method.preconditions → (d : ℕ) (h : List Handed) → modular_method d h ≡ behind_owed d h
  opened met d h = ap (λ o. after o (λ s. after (check_decrease run at callee method s) (λ now. handed_over h))) (checks_out met h)

  -- ---- what the modular call gives to which the results are handed in

  owed_there : (n : ℕ) (r : Returned) → measured_method (W n) at method arguments store ≡ Gives r → (other : Store) → IsMet run.program (begin (arguments ++ r.values) other) method.postconditions
  owed_there n r e other =
      let m : Meaning = W n in
      let same : m.program ≡ run.program = program_of_measured run.program n in
      let a = bound_gives (check_call m start at method.preconditions) (λ s. after (evaluate_all m s (measure_of method)) (λ entry. run_method m at method arguments store)) r e in
      let b = bound_gives (evaluate_all m a.0 (measure_of method)) (λ entry. run_method m at method arguments store) r a.2 in
      let c = bound_gives (check_call m start at method.preconditions) (λ s. after (run_body m method s) (λ t. after (results_of method t) (λ vs. Gives (record { values = vs; store = t.store })))) r b.2 in
      let d = bound_gives (run_body m method c.0) (λ t. after (results_of method t) (λ vs. Gives (record { values = vs; store = t.store }))) r c.2 in
      let f = bound_gives (results_of method d.0) (λ vs. Gives (record { values = vs; store = d.0.store })) r d.2 in
      let begins : c.0 ≡ start = given (λ (s : State). s ≡ start) (check_call m start at method.preconditions) c.0 (owed_same m start at method.preconditions) c.1 in
      let values : f.0 ≡ r.values = ap (λ (x : Returned). x.values) (given_is (record { values = f.0; store = d.0.store }) r f.2) in
      subst (λ (vs : List Value). IsMet run.program (begin (arguments ++ vs) other) method.postconditions) values
      (subst (λ (p : Program). is_method p method ≡ true → have_types p (types_of method.parameters) arguments ≡ true → IsMet p (begin (arguments ++ f.0) other) method.postconditions) same
      (λ is have. owed_met m (keeps n) method is arguments store have c.0 d.0 f.0 begins d.1 f.1 other) (method_typed run.program callee method well there) typed)

  -- a decrease that is made, for each that is handed in
  abbrev IsDecreased : Type 0
  IsDecreased = (h : List Handed) → (now : List Value) × (decreased h ≡ Gives now)

  abbrev Goal : Returned → Type 0
  Goal r = Follows hand_returned modular_method r

  follows_call : IsMet run.program start method.preconditions → IsDecreased → (n : ℕ) (r : Returned) → measured_method (W n) at method arguments store ≡ Gives r → Goal r
  follows_call met falls n r e = record { front = Given r.values r.store.text ∷ []; depth = 0; by = λ d more le. by_hand d more }
    where
      by_hand : (d : ℕ) (more : List Handed) → modular_method d (Given r.values r.store.text ∷ more) ≡ Gives (hand_returned more r)
      by_hand d more =
          let h : List Handed = Given r.values r.store.text ∷ more in
          let back : Returned = hand_returned more r in
          let are : have_types run.program (types_of method.results) r.values ≡ true =
          given (λ (x : Returned). have_types run.program (types_of method.results) x.values ≡ true) (measured_method (W n) at method arguments store) r
          (results_typed run.program (W n) (program_of_measured run.program n) (typed_sides n) well at callee method arguments store there typed) e in
          let taken : handed_results run.program method h ≡ Gives back = ap (λ b. if b then Gives back else Dismissed) are in
          let met_there : assume_returned run.program method arguments back ≡ Gives back = ap (λ o. after (or_dismissed o) (λ s. Gives back)) (owed_there n r e back.store) in
          opened met d h ∙ ap (λ o. after o (λ now. handed_over h)) (falls h).1 ∙ ap (λ o. after o (assume_returned run.program method arguments)) taken ∙ met_there

  -- ---- the measured call

  entry_grows : (n m : ℕ) → n ≤ m → after (evaluate_all (W n) start (measure_of method)) (λ entry. run_method (W n) at method arguments store) ⊑ after (evaluate_all (W m) start (measure_of method)) (λ entry. run_method (W m) at method arguments store)
  entry_grows n m le = after_grows _ _ _ _ (values_grow (W n) (W m) (measureds_grow run.program n m le) start (measure_of method)) (λ entry. method_grows (W n) (W m) (measureds_grow run.program n m le) at method arguments store)

  -- what is behind the preconditions
  entered : (n : ℕ) (r : Returned) → measured_method (W n) at method arguments store ≡ Gives r → after (evaluate_all (W n) start (measure_of method)) (λ entry. run_method (W n) at method arguments store) ≡ Gives r
  entered n r e =
      let a = bound_gives (check_call (W n) start at method.preconditions) (λ s. after (evaluate_all (W n) s (measure_of method)) (λ entry. run_method (W n) at method arguments store)) r e in
      let begins : a.0 ≡ start = given (λ (s : State). s ≡ start) (check_call (W n) start at method.preconditions) a.0 (owed_same (W n) start at method.preconditions) a.1 in
      subst (λ (s : State). after (evaluate_all (W n) s (measure_of method)) (λ entry. run_method (W n) at method arguments store) ≡ Gives r) begins a.2

  run_behind : (n : ℕ) (r : Returned) → measured_method (W n) at method arguments store ≡ Gives r → run_method (W n) at method arguments store ≡ Gives r
  run_behind n r e = (bound_gives (evaluate_all (W n) start (measure_of method)) (λ entry. run_method (W n) at method arguments store) r (entered n r e)).2

  -- of an earlier group
  earlier_runs : IsMet run.program start method.preconditions → (group_at run.groups run.number == group_at run.groups callee) ≡ false
      → Runs (λ n. after (evaluate_all (W n) start (measure_of method)) (λ entry. run_method (W n) at method arguments store)) Goal
  earlier_runs met other =
      let apart : group_at run.groups run.number ≡ group_at run.groups callee → ⊥ = eqb-false (group_at run.groups run.number) (group_at run.groups callee) other in
      let less : group_at run.groups callee < group_at run.groups run.number = omega (arith, no_later, apart) in
      let c : Comes run.program method arguments store = known.comes callee method arguments store there typed met (inl less) in
      let falls : IsDecreased = λ h. ([], ap (λ b. if b then after (evaluate_all plain (hand_state h start) (measure_of method)) (λ now. check_below at now run.entry) else Gives []) other) in
      runs_to (λ n. after (evaluate_all (W n) start (measure_of method)) (λ entry. run_method (W n) at method arguments store)) Goal c.depth c.returned entry_grows (entered c.depth c.returned (c.ends at))
      (follows_call met falls c.depth c.returned (c.ends at))

  -- of the same group
  same_runs : IsMet run.program start method.preconditions → (group_at run.groups run.number == group_at run.groups callee) ≡ true → IsSafe behind_owed
      → Runs (λ n. after (evaluate_all (W n) start (measure_of method)) (λ entry. run_method (W n) at method arguments store)) Goal
  same_runs met same safe =
      let B : ℕ → List Handed → Outcome (List Value) = λ d h. evaluate_all plain (hand_state h start) (measure_of method) in
      let C : ℕ → List Handed → List Value → Outcome (List Value) = λ d h now. check_below at now run.entry in
      let free : (d : ℕ) (h : List Handed) → B d h ≡ B d [] = values_free run.program W (λ d. plain) (plain_sides run.program) start (measure_of method) in
      let deeper : (d e : ℕ) (h : List Handed) (now : List Value) → d ≤ e → C d h now ⊑ C e h now = λ d e h now le. same_grows (check_below at now run.entry) in
      let decreases : (h : List Handed) → decreased h ≡ after (B 0 h) (C 0 h) = λ h. ap (λ b. if b then after (B 0 h) (C 0 h) else Gives []) same in
      let safe_there : IsSafe (λ d h. after (B d h) (C d h)) = record { never = λ d h a k e. safe.never d h a k (ap (λ o. after o (λ now. handed_over h)) (decreases h ∙ e)) } in
      runs_after (λ n. evaluate_all (W n) start (measure_of method)) (Follows keep B) (λ n entry. run_method (W n) at method arguments store) Goal
      ((values_simulate run.program W (λ d. plain) (plain_sides run.program) start (measure_of method)).runs (read_safe keep B C free deeper safe_there)) (λ now c f.
      let is_now : evaluate_all plain start (measure_of method) ≡ Gives now =
      sym (all_same (W c.depth) plain start start (record { program = program_of_measured run.program c.depth; locals = λ local. refl }) (measure_of method)) ∙ c.gives in
      let below : are_below now run.entry ≡ true = below_safe at now run.entry (λ e. (behind_safe keep B C free deeper safe_there now f).never 0 [] at kinds.Decreases e) in
      let comes : Comes run.program method arguments store =
      known.comes callee method arguments store there typed met (inr (sym (eqb-true (group_at run.groups run.number) (group_at run.groups callee) same), record { now = now; is_now = is_now; below = below })) in
      let falls : IsDecreased = λ h. (
        now,
        decreases h
            ∙ ap (λ o. after o (C 0 h)) (all_same plain plain (hand_state h start) start (record { program = refl; locals = λ local. refl }) (measure_of method) ∙ is_now)
            ∙ ap (λ b. if b then Gives now else Wrong at kinds.Decreases) below,
      ) in
      runs_to (λ n. run_method (W n) at method arguments store) Goal comes.depth comes.returned (λ n m le. method_grows (W n) (W m) (measureds_grow run.program n m le) at method arguments store)
      (run_behind comes.depth comes.returned (comes.ends at)) (follows_call met falls comes.depth comes.returned (comes.ends at)))

  behind_runs : IsMet run.program start method.preconditions → (b : Bool) → (group_at run.groups run.number == group_at run.groups callee) ≡ b → IsSafe behind_owed
      → Runs (λ n. after (evaluate_all (W n) start (measure_of method)) (λ entry. run_method (W n) at method arguments store)) Goal
  behind_runs met true same safe = same_runs met same safe
  behind_runs met false other safe = earlier_runs met other

  call_runs : IsSafe modular_method → Runs (λ n. measured_method (W n) at method arguments store) Goal
  call_runs safe =
      let B : ℕ → List Handed → Outcome State = λ d h. check_call plain (hand_state h start) at method.preconditions in
      let owed_safe : IsSafe B = record { never = λ d h a k e. safe.never d h a k (ap (λ o. after o (λ s. after (check_decrease run at callee method s) (λ now. handed_over h))) e) } in
      runs_after (λ n. check_call (W n) start at method.preconditions) (Follows hand_state B) (λ n s. after (evaluate_all (W n) s (measure_of method)) (λ entry. run_method (W n) at method arguments store)) Goal
      ((owed_simulate run.program W (λ d. plain) (plain_sides run.program) start at method.preconditions).runs owed_safe) (λ s c f.
      let same : s ≡ start = given (λ (x : State). x ≡ start) (check_call (W c.depth) start at method.preconditions) s (owed_same (W c.depth) start at method.preconditions) c.gives in
      let met : IsMet run.program start method.preconditions =
      met_by_call (W c.depth) plain start start s at method.preconditions (seen_alike (W c.depth) plain start start (record { program = program_of_measured run.program c.depth; locals = λ local. refl }) method.preconditions) c.gives in
      let safe_there : IsSafe behind_owed = record { never = λ d h a k e. safe.never d h a k (opened met d h ∙ e) } in
      subst (λ (x : State). Runs (λ n. after (evaluate_all (W n) x (measure_of method)) (λ entry. run_method (W n) at method arguments store)) Goal) (sym same)
      (behind_runs met (group_at run.groups run.number == group_at run.groups callee) refl safe_there))

  measured_calls_are : (n : ℕ) → (W n).call at callee arguments store ≡ later (λ k. measured_method (W k) at method arguments store) n
  measured_calls_are zero = refl
  measured_calls_are (suc n) = found_is run.program (measured run.program n).program callee method (λ x. measured_method (W n) at x arguments store) (program_of_measured run.program n) there

  pub call_simulates : Simulates hand_returned (λ n. (W n).call at callee arguments store) (λ d h. (modular run d).call at callee arguments (hand_store h store))
  call_simulates =
      simulates_same hand_returned (λ n. (W n).call at callee arguments store) (λ n. later (λ k. measured_method (W k) at method arguments store) n)
      (λ d h. (modular run d).call at callee arguments (hand_store h store)) modular_method measured_calls_are calls_are
      (record { runs = λ safe. runs_later (λ k. measured_method (W k) at method arguments store) Goal (call_runs safe) })

pub calls_simulate : (run : Running) → is_well_typed run.program ≡ true → ((n : ℕ) → IsMeaningTyped (measured run.program n)) → ((n : ℕ) → KeepsTurns (measured run.program n)) → CalleesCome run
    → CallsSimulate run.program (measured run.program) (modular run) (IsNoLater run)
calls_simulate run well typed_sides keeps known = record { call = λ at callee method arguments store there typed no_later. call_simulates run well typed_sides keeps known at callee method arguments store there typed no_later }
