-- A method's body: the whole run goes together with the modular one, and so comes to an end.
use Rattle.std.proofs.Common.{◌≡◌, ℕ, zero, suc, true, false, ◌⊎◌, inl, inr, List, [], ◌∷◌, ◌++◌, length, Contains, Option, Some, None, refl, sym, ap, subst, ◌∙◌}
use Rattle.std.specs.Option.{option_map_or}
use Rattle.df_base.specs.declared.pos.Pos.{Pos}
use Rattle.df_lang.specs.declared.ty.Ty.{Ty}
use Rattle.df_lang.specs.Program.{Method, Program, method_at, types_of}
use Rattle.df_lang.specs.Typing.{is_well_typed}
use Rattle.df_lang.specs.Groups.{callees_of_all, AreGroups}
use Rattle.df_meaning.specs.declared.kind.Kind.TheVariants as kinds
use Rattle.df_meaning.specs.Value.{Value}
use Rattle.df_meaning.specs.Types.{have_types}
use Rattle.df_meaning.specs.Outcome.{Outcome, Gives, Wrong, TooDeep, NoChoice, Dismissed, after}
use Rattle.df_meaning.specs.State.{Store, State, begin, value_at}
use Rattle.df_meaning.specs.Meaning.{Meaning, Flow, Returned}
use Rattle.df_meaning.specs.Meaning as flows
use Rattle.df_meaning.specs.Execution.{check_all, evaluate_all, execute_all}
use Rattle.df_meaning.specs.Whole.{check_call, values_from, results_of, end_of, run_body, run_method}
use Rattle.df_meaning.specs.Modular.{Running, plain_meaning, modular, IsModularlySafe}
use Rattle.df_meaning.specs.Growing.{◌⊑◌, Below}
use Rattle.df_meaning.proofs.Outcomes.{after_grows, same_grows}
use Rattle.df_meaning.proofs.Executing.{checks_grow}
use Rattle.df_meaning.proofs.Counting.{not_dismissed, has_choice}
use Rattle.df_meaning.proofs.Definite.{AreResults}
use Rattle.df_meaning.proofs.Shallow.{not_deep, all_shallow}
use Rattle.df_meaning.proofs.Stating.{within_front}
use Rattle.df_meaning.proofs.Wholes.{all_types, both_within, begin_typed, body_typed, method_typed}
use Rattle.df_meaning.proofs.Modulars.{modulars_grow}
use Rattle.df_hoare.proofs.Measured.{measured_method, measured}
use Rattle.df_hoare.proofs.Running.{Runs}
use Rattle.df_hoare.proofs.Simulating.{IsSafe, Follows, Simulates, simulates_dismissed, simulates_after}
use Rattle.df_hoare.proofs.Sides.{hand_store, hand_state, hand_flow, all_same, checks_simulate}
use Rattle.df_hoare.proofs.Clauses.{IsMet, seen_alike, met_by_met, call_by_met}
use Rattle.df_hoare.proofs.Counted.{EachCounts}
use Rattle.df_hoare.proofs.Measuring.{program_of_measured, measureds_typed, measureds_keep}
use Rattle.df_hoare.proofs.Loops.{sides_of, loops_simulate}
use Rattle.df_hoare.proofs.Sources.{AllAllowed}
use Rattle.df_hoare.proofs.Statements.{stmts_simulate}
use Rattle.df_hoare.proofs.Calls.{measure_of, Comes, CalleesCome, IsNoLater, calls_simulate}

-- ---- the end of a body

-- what is owed where it ended
abbrev owed_at : Meaning → Method → Flow → Outcome State
owed_at m method flow = after (end_of flow) (λ t. check_all m t kinds.Ensures method.postconditions)

owed_deeper : (m n : Meaning) → Below m n → (method : Method) (flow : Flow) → owed_at m method flow ⊑ owed_at n method flow
owed_deeper m n h method flow = after_grows _ _ _ _ (same_grows (end_of flow)) (λ t. checks_grow m n h t kinds.Ensures method.postconditions)

owed_simulates : (run : Running) (method : Method) (flow : Flow) → Simulates hand_state (λ n. owed_at (measured run.program n) method flow) (λ d h. owed_at (modular run d) method (hand_flow h flow))
owed_simulates run method (flows.Next t) = checks_simulate run.program (measured run.program) (modular run) (sides_of run) t kinds.Ensures method.postconditions
owed_simulates run method (flows.Return t) = checks_simulate run.program (measured run.program) (modular run) (sides_of run) t kinds.Ensures method.postconditions
owed_simulates run method (flows.Break t) = simulates_dismissed hand_state

-- results are there, or the run does not count
results_given : (s : State) (from count : ℕ) → (values_from s from count ≡ Dismissed) ⊎ ((vs : List Value) × (values_from s from count ≡ Gives vs))
results_given s from zero = inr ([], refl)
results_given s from (suc count) = by_value (value_at s from) (results_given s (suc from) count)
  where
    by_value : (o : Option Value) → (values_from s (suc from) count ≡ Dismissed) ⊎ ((vs : List Value) × (values_from s (suc from) count ≡ Gives vs))
        → (option_map_or (λ v. after (values_from s (suc from) count) (λ vs. Gives (v ∷ vs))) o Dismissed ≡ Dismissed)
        ⊎ ((vs : List Value) × (option_map_or (λ v. after (values_from s (suc from) count) (λ vs. Gives (v ∷ vs))) o Dismissed ≡ Gives vs))
    by_value None rest = inl refl
    by_value (Some v) (inl none) = inl (ap (λ q. after q (λ vs. Gives (v ∷ vs))) none)
    by_value (Some v) (inr given) = inr (v ∷ given.0, ap (λ q. after q (λ vs. Gives (v ∷ vs))) given.1)

-- ---- the run of a method on arguments that meet its preconditions

module _ (program : Program) (method : Method) (arguments : List Value) (store : Store) (met : IsMet program (begin arguments store) method.preconditions) where
  abbrev start : State
  start = begin arguments store

  abbrev plain : Meaning
  plain = plain_meaning program

  checks_out : (n : ℕ) (at : Pos) → check_call (measured program n) start at method.preconditions ≡ Gives start
  checks_out n at =
      call_by_met plain (measured program n) start start start at method.preconditions
      (seen_alike plain (measured program n) start start (record { program = sym (program_of_measured program n); locals = λ local. refl }) method.preconditions) met

  measure_is : (n : ℕ) → evaluate_all (measured program n) start (measure_of method) ≡ evaluate_all plain start (measure_of method)
  measure_is n = all_same (measured program n) plain start start (record { program = program_of_measured program n; locals = λ local. refl }) (measure_of method)

  -- where its measure is this
  entered : (n : ℕ) (at : Pos) (q : Outcome (List Value)) → evaluate_all plain start (measure_of method) ≡ q
      → measured_method (measured program n) at method arguments store ≡ after q (λ entry. run_method (measured program n) at method arguments store)
  entered n at q e =
      ap (λ o. after o (λ s. after (evaluate_all (measured program n) s (measure_of method)) (λ entry. run_method (measured program n) at method arguments store))) (checks_out n at)
      ∙ ap (λ o. after o (λ entry. run_method (measured program n) at method arguments store)) (measure_is n ∙ e)

  -- and its body comes to this
  run_out : (n : ℕ) (at : Pos) (entry : List Value) (q : Outcome State) → evaluate_all plain start (measure_of method) ≡ Gives entry → run_body (measured program n) method start ≡ q
      → measured_method (measured program n) at method arguments store ≡ after q (λ t. after (results_of method t) (λ vs. Gives (record { values = vs; store = t.store })))
  run_out n at entry q e f =
      entered n at (Gives entry) e
      ∙ ap (λ o. after o (λ s. after (run_body (measured program n) method s) (λ t. after (results_of method t) (λ vs. Gives (record { values = vs; store = t.store }))))) (checks_out n at)
      ∙ ap (λ o. after o (λ t. after (results_of method t) (λ vs. Gives (record { values = vs; store = t.store })))) f

  -- its measure has values
  pub with_entry : {P : Type 0} (groups : List ℕ) (number : ℕ) → method_at program number ≡ Some method → have_types program (types_of method.parameters) arguments ≡ true → EachCounts program
      → IsModularlySafe program groups number method → ((entry : List Value) → evaluate_all plain start (measure_of method) ≡ Gives entry → P) → P
  with_entry {P} groups number there typed counts safe goes = by_measure (evaluate_all plain start (measure_of method)) refl
    where
      by_measure : (o : Outcome (List Value)) → evaluate_all plain start (measure_of method) ≡ o → P
      by_measure (Gives entry) e = goes entry e
      by_measure (Wrong at kind) e =
          absurd (safe at kind (record {
            depth = 0;
            arguments = arguments;
            store = store;
            typed = typed;
            wrong =
                ap (λ o. after o (λ s. after (evaluate_all plain s (measure_of method)) (λ entry. run_body (modular (record { program = program; groups = groups; number = number; entry = entry }) 0) method s))) met
                ∙ ap (λ o. after o (λ entry. run_body (modular (record { program = program; groups = groups; number = number; entry = entry }) 0) method start)) e;
          }))
      by_measure TooDeep e = absurd (not_deep (evaluate_all plain start (measure_of method)) (all_shallow plain start (measure_of method)) e)
      by_measure NoChoice e = absurd (has_choice (AreResults method) _ (counts number method arguments store 0 there typed) (entered 0 method.declared.pos NoChoice e))
      by_measure Dismissed e = absurd (not_dismissed (AreResults method) _ (counts number method arguments store 0 there typed) (entered 0 method.declared.pos Dismissed e))

module _ (run : Running) (well : is_well_typed run.program ≡ true) (groups_are : AreGroups run.program run.groups) (known : CalleesCome run) (counts : EachCounts run.program)
    (method : Method) (there : method_at run.program run.number ≡ Some method) (safe : IsModularlySafe run.program run.groups run.number method)
    (arguments : List Value) (store : Store) (typed : have_types run.program (types_of method.parameters) arguments ≡ true) (met : IsMet run.program (begin arguments store) method.preconditions)
    (entry_is : evaluate_all (plain_meaning run.program) (begin arguments store) (measure_of method) ≡ Gives run.entry) where
  abbrev first : State
  first = begin arguments store

  allowed : AllAllowed (IsNoLater run) (callees_of_all method.body)
  allowed callee c = groups_are.ordered run.number callee (subst (λ (o : Option Method). Contains (option_map_or (λ (x : Method). callees_of_all x.body) o []) callee) (sym there) c)

  body_simulates : Simulates hand_state (λ n. run_body (measured run.program n) method first) (λ d h. run_body (modular run d) method (hand_state h first))
  body_simulates =
      let typed_sides = measureds_typed run.program well in
      let keeps = measureds_keep run.program in
      let parameters : List Ty = types_of method.parameters in
      let results : List Ty = types_of method.results in
      simulates_after hand_flow hand_state (λ d h. execute_all (modular run d) (hand_state h first) method.body) (λ d flow. owed_at (modular run d) method flow)
      (λ d e flow le. owed_deeper (modular run d) (modular run e) (modulars_grow run d e le) method flow)
      (λ n. execute_all (measured run.program n) first method.body) (λ n flow. owed_at (measured run.program n) method flow)
      (stmts_simulate run.program (measured run.program) (modular run) (sides_of run) typed_sides (IsNoLater run) (calls_simulate run well typed_sides keeps known) (loops_simulate run typed_sides keeps)
      method.body (parameters ++ results) (all_types method) method false first (record { at = λ n ty e. e })
      (begin_typed run.program parameters (all_types method) arguments store (within_front parameters results (all_types method) (both_within method)) typed)
      (body_typed run.program method (method_typed run.program run.number method well there)) allowed)
      (λ flow c. owed_simulates run method flow)

  body_safe : IsSafe (λ d h. run_body (modular run d) method (hand_state h first))
  body_safe = record {
    never = λ d h at kind e.
        let p : Meaning = plain_meaning run.program in
        let met_there : IsMet run.program (hand_state h first) method.preconditions =
        met_by_met p p first (hand_state h first) first method.preconditions (seen_alike p p first (hand_state h first) (record { program = refl; locals = λ local. refl }) method.preconditions) met in
        let entry_there : evaluate_all p (hand_state h first) (measure_of method) ≡ Gives run.entry =
        all_same p p (hand_state h first) first (record { program = refl; locals = λ local. refl }) (measure_of method) ∙ entry_is in
        safe at kind (record {
          depth = d;
          arguments = arguments;
          store = hand_store h store;
          typed = typed;
          wrong =
              ap (λ o. after o (λ s. after (evaluate_all p s (measure_of method)) (λ entry. run_body (modular (record { program = run.program; groups = run.groups; number = run.number; entry = entry }) d) method s))) met_there
              ∙ ap (λ o. after o (λ entry. run_body (modular (record { program = run.program; groups = run.groups; number = run.number; entry = entry }) d) method (hand_state h first))) entry_there
              ∙ e;
        });
  }

  pub body_comes : Comes run.program method arguments store
  body_comes = by_end (run_body (measured run.program k) method first) refl
    where
      r : Runs (λ n. run_body (measured run.program n) method first) (Follows hand_state (λ d h. run_body (modular run d) method (hand_state h first)))
      r = body_simulates.runs body_safe

      k : ℕ
      k = r.ends.depth

      by_results : (t : State) → run_body (measured run.program k) method first ≡ Gives t → (results_of method t ≡ Dismissed) ⊎ ((vs : List Value) × (results_of method t ≡ Gives vs)) → Comes run.program method arguments store
      by_results t e (inl none) =
          absurd (not_dismissed (AreResults method) _ (counts run.number method arguments store k there typed)
          (run_out run.program method arguments store met k method.declared.pos run.entry (Gives t) entry_is e ∙ ap (λ o. after o (λ vs. Gives (record { values = vs; store = t.store }))) none))
      by_results t e (inr given) = record {
        depth = k;
        returned = record { values = given.0; store = t.store };
        ends = λ at. run_out run.program method arguments store met k at run.entry (Gives t) entry_is e ∙ ap (λ o. after o (λ vs. Gives (record { values = vs; store = t.store }))) given.1;
      }

      by_end : (o : Outcome State) → run_body (measured run.program k) method first ≡ o → Comes run.program method arguments store
      by_end (Gives t) e = by_results t e (results_given t (length method.parameters) (length method.results))
      by_end (Wrong at kind) e = absurd (r.right k at kind e)
      by_end TooDeep e = absurd (r.ends.not_too_deep e)
      by_end NoChoice e =
          absurd (has_choice (AreResults method) _ (counts run.number method arguments store k there typed) (run_out run.program method arguments store met k method.declared.pos run.entry NoChoice entry_is e))
      by_end Dismissed e =
          absurd (not_dismissed (AreResults method) _ (counts run.number method arguments store k there typed) (run_out run.program method arguments store met k method.declared.pos run.entry Dismissed entry_is e))
