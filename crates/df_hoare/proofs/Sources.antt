-- Calls, right sides and assignments: whole and modular ones go together where calls do.
use Rattle.std.proofs.Common.{◌≡◌, ℕ, Bool, true, false, List, [], ◌∷◌, ◌++◌, map, Contains, Option, Some, None, refl, sym, subst, ◌∙◌, arith}
use Rattle.std.proofs.lemmas.List.Elements.{Contains-append_left, Contains-append_right}
use Rattle.std.specs.Option.{option_map_or}
use Rattle.std.specs.List.{list_all, flat_map}
use Rattle.df_base.specs.declared.pos.Pos.{Pos}
use Rattle.df_lang.specs.declared.ty.Ty.{Ty}
use Rattle.df_lang.specs.Expr.{Expr}
use Rattle.df_lang.specs.Stmt.{Target, Call, Source, Single, Results, Update}
use Rattle.df_lang.specs.Program.{Method, Program, method_at, types_of}
use Rattle.df_lang.specs.Typing.{are_same_types, are_exprs, Setting, is_call, are_results, is_source, source_types, is_target, is_update, may_update}
use Rattle.df_lang.specs.Groups.{callees_of_source, callees_of_update}
use Rattle.df_meaning.specs.declared.kind.Kind.TheVariants as kinds
use Rattle.df_meaning.specs.Value as values
use Rattle.df_meaning.specs.Types.{have_types}
use Rattle.df_meaning.specs.Outcome.{Gives, after}
use Rattle.df_meaning.specs.State.{Store, State, value_at, with_local, with_store}
use Rattle.df_meaning.specs.Meaning.{Meaning}
use Rattle.df_meaning.specs.Evaluation.{evaluate}
use Rattle.df_meaning.specs.Execution.{Values, Taken, evaluate_all, convert_all, execute_call, execute_source, execute_sources, is_distinct, give_all, execute_update, execute_optional}
use Rattle.df_meaning.specs.Typed.{AreTyped}
use Rattle.df_meaning.proofs.Outcomes.{same_grows, after_grows}
use Rattle.df_meaning.proofs.Executing.{conversions_grow, sources_grow}
use Rattle.df_meaning.proofs.Cases.{given, both, three}
use Rattle.df_meaning.proofs.Stating.{all_typed}
use Rattle.df_meaning.proofs.Kept.{StaysAt, source_stays}
use Rattle.df_hoare.proofs.Running.{Reaches}
use Rattle.df_hoare.proofs.Simulating.{Simulates, simulates_gives, simulates_wrong, simulates_choice, simulates_after, simulates_read}
use Rattle.df_hoare.proofs.Sides.{hand_store, hand_state, hand_returned, hand_values, AreSides, value_simulates, value_free, values_simulate, values_free, conversions_simulate}

-- calls of methods that may be called go together
pub record CallsSimulate (program : Program) (W M : ℕ → Meaning) (Allowed : ℕ → Type 0) : Type 0 where
  pub call : (at : Pos) (callee : ℕ) (method : Method) (arguments : List values.Value) (store : Store) → method_at program callee ≡ Some method
      → have_types program (types_of method.parameters) arguments ≡ true → Allowed callee
      → Simulates hand_returned (λ n. (W n).call at callee arguments store) (λ d h. (M d).call at callee arguments (hand_store h store))

-- each of these may be called
abbrev pub AllAllowed : (ℕ → Type 0) → List ℕ → Type 0
AllAllowed Allowed callees = (callee : ℕ) → Contains callees callee → Allowed callee

pub allowed_front : (Allowed : ℕ → Type 0) (cs ds : List ℕ) → AllAllowed Allowed (cs ++ ds) → AllAllowed Allowed cs
allowed_front Allowed cs ds h callee c = h callee (Contains-append_left cs ds callee c)

pub allowed_behind : (Allowed : ℕ → Type 0) (cs ds : List ℕ) → AllAllowed Allowed (cs ++ ds) → AllAllowed Allowed ds
allowed_behind Allowed cs ds h callee c = h callee (Contains-append_right cs ds callee c)

pub allowed_one : (Allowed : ℕ → Type 0) (callee : ℕ) → AllAllowed Allowed (callee ∷ []) → Allowed callee
allowed_one Allowed callee h = h callee (0, omega arith, refl)

-- where a statement of a method stands
abbrev pub place : Program → List Ty → Method → Bool → Setting
place program locals own in_loop = record { program = program; method = own; locals = locals; in_loop = in_loop }

stays_typed : (p : Program) (locals : List Ty) (s t : State) → AreTyped p locals s → ((n : ℕ) → value_at t n ≡ value_at s n) → AreTyped p locals t
stays_typed p locals s t typed h = record { at = λ n ty v e f. let g : value_at s n ≡ Some v = sym (h n) ∙ f in typed.at n ty v e g }

-- values go to their places
gives_simulate : (targets : List Target) (vs : List values.Value) (s : State) (earlier : List Taken) → Simulates hand_state (λ n. give_all s earlier targets vs) (λ d h. give_all (hand_state h s) earlier targets vs)
gives_simulate [] vs s earlier = simulates_gives hand_state s
gives_simulate (t ∷ ts) [] s earlier = simulates_gives hand_state s
gives_simulate (t ∷ ts) (v ∷ vs) s earlier =
    simulates_choice hand_state (is_distinct earlier t.local v) _ _ _ _ (simulates_wrong hand_state t.pos kinds.Distinct)
    (gives_simulate ts vs (with_local s t.local v) (record { local = t.local; value = v } ∷ earlier))

module _ (program : Program) (W M : ℕ → Meaning) (sides : AreSides program W M) (Allowed : ℕ → Type 0) (calls : CallsSimulate program W M Allowed) where
  arguments_typed : (locals : List Ty) (s : State) → AreTyped program locals s → (tys : List Ty) (es : List Expr) → are_exprs program locals tys es ≡ true
      → (n : ℕ) (vs : List values.Value) → evaluate_all (W n) s es ≡ Gives vs → have_types program tys vs ≡ true
  arguments_typed locals s typed tys es are n vs e =
      subst (λ (p : Program). AreTyped p locals s → are_exprs p locals tys es ≡ true → have_types p tys vs ≡ true) (sides.wholes n)
      (λ t a. given (λ (ws : List values.Value). have_types (W n).program tys ws ≡ true) (evaluate_all (W n) s es) vs (all_typed (W n) locals s t tys es a) e) typed are

  pub call_simulates : (locals : List Ty) (s : State) → AreTyped program locals s → (call : Call) (method : Method) → method_at program call.callee ≡ Some method
      → are_exprs program locals (types_of method.parameters) call.arguments ≡ true → Allowed call.callee
      → Simulates hand_values (λ n. execute_call (W n) s call) (λ d h. execute_call (M d) (hand_state h s) call)
  call_simulates locals s typed call method there are allowed =
      simulates_read hand_values (λ d h. evaluate_all (M d) (hand_state h s) call.arguments)
      (λ d h arguments. after ((M d).call call.pos call.callee arguments (hand_store h s.store)) (λ r. Gives (record { values = r.values; state = with_store s r.store })))
      (values_free program W M sides s call.arguments)
      (λ d e h arguments le. after_grows _ _ _ _ ((sides.modulars_grow d e le).call call.pos call.callee arguments (hand_store h s.store)) (λ r. refl))
      (λ n. evaluate_all (W n) s call.arguments)
      (λ n arguments. after ((W n).call call.pos call.callee arguments s.store) (λ r. Gives (record { values = r.values; state = with_store s r.store })))
      (values_simulate program W M sides s call.arguments)
      (λ arguments c.
      simulates_after hand_returned hand_values (λ d h. (M d).call call.pos call.callee arguments (hand_store h s.store)) (λ d r. Gives (record { values = r.values; state = with_store s r.store })) (λ d e r le. refl)
      (λ n. (W n).call call.pos call.callee arguments s.store) (λ n r. Gives (record { values = r.values; state = with_store s r.store }))
      (calls.call call.pos call.callee method arguments s.store there (arguments_typed locals s typed (types_of method.parameters) call.arguments are c.depth arguments c.gives) allowed)
      (λ r k. simulates_gives hand_values (record { values = r.values; state = with_store s r.store })))

  -- the callee is a method of the program
  pub found_simulates : (locals : List Ty) (own : Method) (in_loop : Bool) (s : State) → AreTyped program locals s → (call : Call) → is_call (place program locals own in_loop) call ≡ true → Allowed call.callee
      → Simulates hand_values (λ n. execute_call (W n) s call) (λ d h. execute_call (M d) (hand_state h s) call)
  found_simulates locals own in_loop s typed call is allowed = by_callee (method_at program call.callee) refl is
    where
      by_callee : (o : Option Method) → method_at program call.callee ≡ o → option_map_or (λ (method : Method). are_exprs program locals (types_of method.parameters) call.arguments) o false ≡ true
          → Simulates hand_values (λ n. execute_call (W n) s call) (λ d h. execute_call (M d) (hand_state h s) call)
      by_callee None there are = absurd (let f : false ≡ true = are in cc)
      by_callee (Some method) there are = call_simulates locals s typed call method there are allowed

  pub source_simulates : (locals : List Ty) (own : Method) (in_loop : Bool) (s : State) → AreTyped program locals s → (source : Source) → is_source (place program locals own in_loop) source ≡ true
      → AllAllowed Allowed (callees_of_source source) → Simulates hand_values (λ n. execute_source (W n) s source) (λ d h. execute_source (M d) (hand_state h s) source)
  source_simulates locals own in_loop s typed (Single ty value) is allowed =
      simulates_read hand_values (λ d h. evaluate (M d) (hand_state h s) value) (λ d h v. Gives (record { values = v ∷ []; state = hand_state h s })) (value_free program W M sides s value) (λ d e h v le. refl)
      (λ n. evaluate (W n) s value) (λ n v. Gives (record { values = v ∷ []; state = s })) (value_simulates program W M sides s value)
      (λ v c. simulates_gives hand_values (record { values = v ∷ []; state = s }))
  source_simulates locals own in_loop s typed (Results call results) is allowed =
      simulates_after hand_values hand_values (λ d h. execute_call (M d) (hand_state h s) call)
      (λ d given. after (convert_all (M d) call.pos results given.values) (λ vs. Gives (record { values = vs; state = given.state })))
      (λ d e given le. after_grows _ _ _ _ (conversions_grow (M d) (M e) (sides.modulars_grow d e le) call.pos results given.values) (λ vs. refl))
      (λ n. execute_call (W n) s call) (λ n given. after (convert_all (W n) call.pos results given.values) (λ vs. Gives (record { values = vs; state = given.state })))
      (found_simulates locals own in_loop s typed call (both (is_call (place program locals own in_loop) call) (are_results program call results) is).0 (allowed_one Allowed call.callee allowed))
      (λ given c.
      simulates_read hand_values (λ d h. convert_all (M d) call.pos results given.values) (λ d h vs. Gives (record { values = vs; state = hand_state h given.state })) (λ d h. refl) (λ d e h vs le. refl)
      (λ n. convert_all (W n) call.pos results given.values) (λ n vs. Gives (record { values = vs; state = given.state })) (conversions_simulate program W M sides call.pos results given.values)
      (λ vs k. simulates_gives hand_values (record { values = vs; state = given.state })))

  source_state : (locals : List Ty) (s : State) (source : Source) (given_by : Values) → AreTyped program locals s → Reaches (λ n. execute_source (W n) s source) given_by → AreTyped program locals given_by.state
  source_state locals s source g typed c = stays_typed program locals s g.state typed (given (StaysAt s) (execute_source (W c.depth) s source) g (source_stays (W c.depth) s source) c.gives)

  pub sources_simulate : (locals : List Ty) (own : Method) (in_loop : Bool) (sources : List Source) (s : State) → AreTyped program locals s → list_all (is_source (place program locals own in_loop)) sources ≡ true
      → AllAllowed Allowed (flat_map callees_of_source sources) → Simulates hand_values (λ n. execute_sources (W n) s sources) (λ d h. execute_sources (M d) (hand_state h s) sources)
  sources_simulate locals own in_loop [] s typed are allowed = simulates_gives hand_values (record { values = []; state = s })
  sources_simulate locals own in_loop (source ∷ others) s typed are allowed =
      let are = both (is_source (place program locals own in_loop) source) (list_all (is_source (place program locals own in_loop)) others) are in
      simulates_after hand_values hand_values (λ d h. execute_source (M d) (hand_state h s) source)
      (λ d first. after (execute_sources (M d) first.state others) (λ more. Gives (record { values = first.values ++ more.values; state = more.state })))
      (λ d e first le. after_grows _ _ _ _ (sources_grow (M d) (M e) (sides.modulars_grow d e le) first.state others) (λ more. refl))
      (λ n. execute_source (W n) s source)
      (λ n first. after (execute_sources (W n) first.state others) (λ more. Gives (record { values = first.values ++ more.values; state = more.state })))
      (source_simulates locals own in_loop s typed source are.0 (allowed_front Allowed (callees_of_source source) (flat_map callees_of_source others) allowed))
      (λ first c.
      simulates_after hand_values hand_values (λ d h. execute_sources (M d) (hand_state h first.state) others)
      (λ d more. Gives (record { values = first.values ++ more.values; state = more.state })) (λ d e more le. refl)
      (λ n. execute_sources (W n) first.state others) (λ n more. Gives (record { values = first.values ++ more.values; state = more.state }))
      (sources_simulate locals own in_loop others first.state (source_state locals s source first typed c) are.1 (allowed_behind Allowed (callees_of_source source) (flat_map callees_of_source others) allowed))
      (λ more k. simulates_gives hand_values (record { values = first.values ++ more.values; state = more.state })))

  pub update_simulates : (locals : List Ty) (own : Method) (in_loop : Bool) (s : State) → AreTyped program locals s → (update : Update) → is_update (place program locals own in_loop) update ≡ true
      → AllAllowed Allowed (callees_of_update (Some update)) → Simulates hand_state (λ n. execute_update (W n) s update) (λ d h. execute_update (M d) (hand_state h s) update)
  update_simulates locals own in_loop s typed update is allowed =
      simulates_after hand_values hand_state (λ d h. execute_sources (M d) (hand_state h s) update.sources) (λ d given. give_all given.state [] update.targets given.values)
      (λ d e given le. same_grows (give_all given.state [] update.targets given.values))
      (λ n. execute_sources (W n) s update.sources) (λ n given. give_all given.state [] update.targets given.values)
      (sources_simulate locals own in_loop update.sources s typed
      (three (list_all (is_target (place program locals own in_loop)) update.targets) (list_all (is_source (place program locals own in_loop)) update.sources)
      (are_same_types (flat_map source_types update.sources) (map (λ (t : Target). t.ty) update.targets)) is).1 allowed)
      (λ given c. gives_simulate update.targets given.values given.state [])

  pub optional_simulates : (locals : List Ty) (own : Method) (in_loop : Bool) (s : State) → AreTyped program locals s → (update : Option Update) → may_update (place program locals own in_loop) update ≡ true
      → AllAllowed Allowed (callees_of_update update) → Simulates hand_state (λ n. execute_optional (W n) s update) (λ d h. execute_optional (M d) (hand_state h s) update)
  optional_simulates locals own in_loop s typed None is allowed = simulates_gives hand_state s
  optional_simulates locals own in_loop s typed (Some update) is allowed = update_simulates locals own in_loop s typed update is allowed
