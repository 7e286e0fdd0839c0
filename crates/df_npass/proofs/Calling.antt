-- Calls go on from any results that meet what the callee ensures.
use Rattle.df_npass.proofs.Words.{Decreases, Requires, all_joined, meaning, ◌≡◌, ℕ, ◌≤◌, ◌==◌, nat_lt, Bool, true, false, ◌&&◌, if◌then◌else◌, List, [], ◌∷◌, ◌++◌, map, length, slice_get, Option, Some, refl, sym, ap, ◌∙◌, subst, append_assoc, arith, lt-ltb, length-map, map-append, list_all, option_map_or, Pos, Ty, Call, Clause, Measure, Method, Program, method_at, as_method, types_of, group_at, method_measure, is_type, is_expr, are_clauses, are_measures, are_stmts, is_method, is_well_typed, reads_of_clauses, reads_of_measures, unassigned, Value, truth_of, Outcome, Gives, Wrong, Dismissed, after, Handed, State, store_with, begin, Returned, check_call, assume_each, or_dismissed, measure_values, check_below, handed_results, Running, plain_meaning, check_decrease, assume_returned, modular_call, both, four, place, clauses_read, method_measure_reads, first_locals, first_have, method_typed, Term, Interpretation, Measured, measured, are_below, AreMeasured, IsSorted, SameBelow, value_same, below_orders, Said, Way, over, assert, Setting, grouped_with, assert_clauses, assume_clauses, assert_measure, env_of, any_values, assert_decrease, pass_method_call, results_in, slice_get_within}
use Rattle.df_meaning.specs.Order as order
use Rattle.df_lemmas.proofs.Options.{then_some}
use Rattle.df_npass.proofs.Lemmas.{path_true, Mode, handing, Moves, Play, play_as, PathBelow, EnvBelow, path_grows, MeasureBelow, measured_below, order_below, TermsBelow, terms_grow, env_of_below, any_giving, values_at, AreOf, with_handed, Sits, checked_then, call_then, assume_then, measures_then, after_after, after_either, then_same, path_same, method_measure_typed}
use Rattle.df_npass.proofs.Taking.{AllSorted, AreResults, returned, results_then}
use Rattle.df_npass.proofs.Arguments.{of_moves, values_move, of_append, any_set, params_of, begun_sits, within_itself}

-- ---- the measure on entry

pub record Entered (program : Program) (entry : List Measured) (entered : List Value) (i : Interpretation) : Type 0 where
  pub program_is : i.program ≡ program
  pub values : entered ≡ map (λ (one : Measured). meaning i one.value) entry
  pub measured : AreMeasured i entry

pub measure_moves : (n : ℕ) (i j : Interpretation) → SameBelow n i j → (members : List Measured) → MeasureBelow n members → map (λ (one : Measured). meaning i one.value) members ≡ map (λ (one : Measured). meaning j one.value) members
measure_moves n i j same [] below = refl
measure_moves n i j same (one ∷ others) below = λ k. value_same n i j same one.value below.0 k ∷ measure_moves n i j same others below.1 k

pub measured_moves : (n : ℕ) (i j : Interpretation) → SameBelow n i j → (members : List Measured) → MeasureBelow n members → AreMeasured i members → AreMeasured j members
measured_moves n i j same [] below h = tt
measured_moves n i j same (one ∷ others) below h = (subst (λ v. IsSorted one.ty v) (value_same n i j same one.value below.0) h.0, measured_moves n i j same others below.1 h.1)

pub entered_moves : (program : Program) (entry : List Measured) (entered : List Value) (n : ℕ) (i j : Interpretation) → SameBelow n i j → MeasureBelow n entry → Entered program entry entered i → Entered program entry entered j
entered_moves program entry entered n i j same below h = record {
  program_is = sym same.program ∙ h.program_is;
  values = h.values ∙ measure_moves n i j same entry below;
  measured = measured_moves n i j same entry below h.measured;
}

-- ---- what is well typed of a method

pub record Contract (program : Program) (method : Method) : Type 0 where
  pub types : list_all (is_type program) (types_of method.parameters ++ types_of method.results) ≡ true
  pub preconditions : are_clauses program (types_of method.parameters) method.preconditions ≡ true
  pub postconditions : are_clauses program (types_of method.parameters ++ types_of method.results) method.postconditions ≡ true
  pub decreases : are_measures program (types_of method.parameters) method.decreases ≡ true
  pub body : are_stmts (place program (types_of method.parameters ++ types_of method.results) method false) method.body ≡ true

pub contract_of : (program : Program) (method : Method) → is_method program method ≡ true → Contract program method
contract_of program method is =
    let all = types_of method.parameters ++ types_of method.results in
    let is = both (list_all (is_type program) all && are_clauses program (types_of method.parameters) method.preconditions && are_clauses program all method.postconditions && are_measures program (types_of method.parameters) method.decreases)
    (are_stmts (place program all method false) method.body) is in
    let parts = four (list_all (is_type program) all) (are_clauses program (types_of method.parameters) method.preconditions) (are_clauses program all method.postconditions) (are_measures program (types_of method.parameters) method.decreases) is.0 in
    record { types = parts.0; preconditions = parts.1; postconditions = parts.2; decreases = parts.3; body = is.1 }

pub first_read : (program : Program) (tys : List Ty) (clauses : List Clause) → are_clauses program tys clauses ≡ true → unassigned (first_locals (length tys)) (reads_of_clauses clauses) ≡ []
first_read program tys clauses are = clauses_read program tys (first_locals (length tys)) (λ local less. first_have (length tys) local less) clauses are

types_long : (method : Method) → length method.parameters ≤ length (types_of method.parameters)
types_long method = let e = length-map method.parameters (λ param. param.ty) in omega (arith, e)

pub measure_read : (program : Program) (method : Method) → are_measures program (types_of method.parameters) method.decreases ≡ true → unassigned (first_locals (length (types_of method.parameters))) (reads_of_measures (Some (method_measure method))) ≡ []
measure_read program method are = method_measure_reads program (types_of method.parameters) (first_locals (length (types_of method.parameters))) (λ local less. first_have (length (types_of method.parameters)) local less) method are (types_long method)

-- what is a method is declared
declared : (program : Program) (number : ℕ) (method : Method) → method_at program number ≡ Some method → nat_lt number (length program.decls) ≡ true
declared program number method found = let there = then_some as_method (slice_get program.decls number) method found in lt-ltb number (length program.decls) (slice_get_within program.decls number there.0 there.1)

-- of four parts
four_parts : {A : Type 0} (xs ys zs ws more : List A) → (xs ++ (ys ++ (zs ++ ws))) ++ more ≡ xs ++ (ys ++ (zs ++ (ws ++ more)))
four_parts xs ys zs ws more = simp append_assoc

module _ (B : Type 0) (program : Program) (well : is_well_typed program ≡ true) (groups : List ℕ) (number : ℕ) (entry : List Measured) (entered : List Value) where
  abbrev pub setting : Setting
  setting = record { program = program; in_group = grouped_with program groups number; entry = entry }

  abbrev pub running : Running
  running = record { program = program; groups = groups; number = number; entry = entered }

  -- the measures are compared where the groups are the same
  measure_checked : (mode : Mode) (i : Interpretation) (n : ℕ) (at : Pos) (measures : List Measure) (way : Way) (s : State) (tys : List Ty) (more : List Said) (go : List Handed → List Value → Outcome B)
      → Entered program entry entered i → MeasureBelow n entry → EnvBelow n way.env → PathBelow n way.path → Sits mode i tys way (first_locals (length tys)) s
      → list_all (λ (measure : Measure). is_expr program tys measure.ty measure.value) measures ≡ true → unassigned (first_locals (length tys)) (reads_of_measures (Some measures)) ≡ []
      → ((now : List Value) → Play B mode i n more (λ handed. go handed now))
      → Play B mode i n ((assert_measure way measures ++ assert way.path at Decreases (are_below (measured way.env measures) entry)) ++ more)
      (λ handed. after (after (measure_values (plain_meaning program) (with_handed s handed) measures) (λ now. check_below at now entered)) (go handed))
  measure_checked mode i n at measures way s tys more go begun below env path sits typed read h =
      let owed = assert way.path at Decreases (are_below (measured way.env measures) entry) in
      let now = map (λ (one : Measured). meaning i one.value) (measured way.env measures) in
      subst (λ said. Play B mode i n said (λ handed. after (after (measure_values (plain_meaning program) (with_handed s handed) measures) (λ now. check_below at now entered)) (go handed))) (sym (append_assoc (assert_measure way measures) owed more))
      (play_as B mode i n _ _ (λ handed. after (measure_values (plain_meaning program) (with_handed s handed) measures) (λ now. after (check_below at now entered) (go handed))) (λ handed. after_after (measure_values (plain_meaning program) (with_handed s handed) measures) _ (go handed))
      (measures_then B mode i n program (plain_meaning program) refl begun.program_is tys tys (within_itself tys) (first_locals (length tys)) way s sits env path measures (owed ++ more) (λ handed now. after (check_below at now entered) (go handed)) typed read (λ are.
      play_as B mode i n (owed ++ more) _ (λ handed. if order.are_below now entered then go handed now else Wrong at Decreases) (λ handed. after_either (order.are_below now entered) (Gives now) (Wrong at Decreases) (go handed) (Wrong at Decreases) refl)
      (checked_then B mode i n way.path sits.there path at Decreases (are_below (measured way.env measures) entry) (order.are_below now entered) more (λ handed. go handed now) (order_below n (measured way.env measures) entry (measured_below n way.env env measures) below)
      (ap (order.are_below now) begun.values ∙ sym (ap truth_of (below_orders i (measured way.env measures) entry are begun.measured))) (h now)))))

  -- what is owed where the groups are the same, and what is checked
  abbrev Falls : Mode → Interpretation → ℕ → Call → Method → Way → State → List Said → (List Handed → List Value → Outcome B) → Bool → Bool → Type 0
  Falls mode i n call method way s more go owed checked =
      Play B mode i n ((if owed then assert_measure way (method_measure method) ++ assert way.path call.pos Decreases (are_below (measured way.env (method_measure method)) entry) else []) ++ more)
      (λ handed. after (if checked then after (measure_values (plain_meaning program) (with_handed s handed) (method_measure method)) (λ now. check_below call.pos now entered) else Gives []) (go handed))

  decrease_then : (mode : Mode) (i : Interpretation) (n : ℕ) (call : Call) (method : Method) (way : Way) (s : State) (more : List Said) (go : List Handed → List Value → Outcome B)
      → method_at program call.callee ≡ Some method → Contract program method → Entered program entry entered i → MeasureBelow n entry → EnvBelow n way.env → PathBelow n way.path → Sits mode i (types_of method.parameters) way (first_locals (length (types_of method.parameters))) s
      → ((now : List Value) → Play B mode i n more (λ handed. go handed now))
      → Play B mode i n (assert_decrease setting call method way ++ more) (λ handed. after (check_decrease running call.pos call.callee method (with_handed s handed)) (go handed))
  decrease_then mode i n call method way s more go found contract begun below env path sits h =
      let same = group_at groups number == group_at groups call.callee in
      subst (λ (b : Bool). Falls mode i n call method way s more go (b && same) same) (sym (declared program call.callee method found)) (by_group same)
    where
      by_group : (b : Bool) → Falls mode i n call method way s more go b b
      by_group true = measure_checked mode i n call.pos (method_measure method) way s (types_of method.parameters) more go begun below env path sits (method_measure_typed program method contract.decreases) (measure_read program method contract.decreases) h
      by_group false = h []

  pub method_call_then : (mode : Mode) (i : Interpretation) (n : ℕ) (way : Way) (call : Call) (method : Method) (terms : List Term) (text : List ℕ) (more : List Said) (go : Returned → Outcome B)
      → PathBelow n way.path → path_true i way.path ≡ true → TermsBelow n terms → MeasureBelow n entry → Entered program entry entered i → method_at program call.callee ≡ Some method → AreOf i (types_of method.parameters) terms
      → ((k : Mode) (j : Interpretation) (later : List ℕ) → Moves mode i n k j → AreOf j (types_of method.results) (any_values way.path method.results n).terms
      → Play B k j (any_values way.path method.results n).fresh more (λ handed. go (returned (values_at j (any_values way.path method.results n).terms) later handed)))
      → Play B (handing (results_in i way.path method n) mode) i n ((pass_method_call setting call method terms way n).said ++ more) (λ handed. after (modular_call running call.pos call.callee (values_at i terms) (store_with text handed)) go)
  method_call_then mode i n way call method terms text more go path there below entry_below begun found are h =
      let start = handing (results_in i way.path method n) mode in
      let contract = contract_of program method (method_typed program call.callee method well found) in
      let vs = values_at i terms in
      let plain = plain_meaning program in
      let inside = over (env_of terms) way in
      let tys = types_of method.parameters in
      let s = begin vs (store_with text []) in
      let env = env_of_below n terms below in
      let sits = begun_sits start i way tys terms (store_with text []) there are in
      let results = any_values way.path method.results n in
      let giving = any_giving way.path method.results n path in
      let asked = assert_clauses (λ clause. call.pos) Requires inside method.preconditions in
      let falls = assert_decrease setting call method inside in
      let ensured = assume_clauses (over (env_of (terms ++ results.terms)) way) method.postconditions in
      let behind : List Handed → Outcome B = (λ handed. after (handed_results program method handed) (λ r. after (assume_returned program method vs r) go)) in
      subst (λ said. Play B start i n said (λ handed. after (modular_call running call.pos call.callee vs (store_with text handed)) go)) (sym (four_parts asked falls results.said ensured more))
      (play_as B start i n _ _ (λ handed. after (check_call plain (with_handed s handed) call.pos method.preconditions) (λ t. after (check_decrease running call.pos call.callee method t) (λ now. behind handed)))
      (λ handed. ap (λ (o : Option Method). after (option_map_or (λ (method : Method).
      after (check_call plain (begin vs (store_with text handed)) call.pos method.preconditions) (λ s.
      after (check_decrease running call.pos call.callee method s) (λ now.
      after (handed_results program method handed) (assume_returned program method vs)))) o Dismissed) go) found
      ∙ (after_after (check_call plain (with_handed s handed) call.pos method.preconditions) _ go
      ∙ then_same (check_call plain (with_handed s handed) call.pos method.preconditions) _ _ (λ t. after_after (check_decrease running call.pos call.callee method t) _ go
      ∙ then_same (check_decrease running call.pos call.callee method t) _ _ (λ now. after_after (handed_results program method handed) (assume_returned program method vs) go))))
      (call_then B start i n program plain refl begun.program_is tys tys (within_itself tys) (first_locals (length tys)) inside s sits env path call.pos method.preconditions (falls ++ (results.said ++ (ensured ++ more)))
      (λ handed t. after (check_decrease running call.pos call.callee method t) (λ now. behind handed)) contract.preconditions (first_read program tys method.preconditions contract.preconditions)
      (decrease_then start i n call method inside s (results.said ++ (ensured ++ more)) (λ handed now. behind handed) found contract begun entry_below env path sits (λ now.
      results_then B n way.path program method (ensured ++ more) (λ r. after (assume_returned program method vs r) go) mode i there begun.program_is (λ k j rs later moves given.
      ensured_then k j rs later moves given contract) giving.made.grows giving.made.said.below))))
    where
      ensured_then : (k : Mode) (j : Interpretation) (rs : List Value) (later : List ℕ) → Moves mode i n k j → AreResults j way.path method.results n rs → Contract program method
          → Play B k j (any_values way.path method.results n).fresh (assume_clauses (over (env_of (terms ++ (any_values way.path method.results n).terms)) way) method.postconditions ++ more)
          (λ handed. after (assume_returned program method (values_at i terms) (returned rs later handed)) go)
      ensured_then k j rs later moves given contract =
          let plain = plain_meaning program in
          let results = any_values way.path method.results n in
          let giving = any_giving way.path method.results n path in
          let whole = terms ++ results.terms in
          let tys = types_of method.parameters ++ types_of method.results in
          let are_results = params_of j method.results results.terms (subst (λ vs. AllSorted method.results vs) given.are given.sorted) (any_set way.path method.results n) in
          let are_all = of_append j (types_of method.parameters) (types_of method.results) terms results.terms (of_moves n i j moves.same (types_of method.parameters) terms below are) are_results in
          let here = sym (path_same n i j moves.same way.path path) ∙ there in
          let program_is = sym moves.same.program ∙ begun.program_is in
          let vs_are : values_at j whole ≡ values_at i terms ++ rs = map-append (meaning j) terms results.terms ∙ (ap (λ vs. vs ++ values_at j results.terms) (sym (values_move n i j moves.same terms below)) ∙ ap (λ vs. values_at i terms ++ vs) (sym given.are)) in
          let sits = subst (λ vs. Sits k j tys (over (env_of whole) way) (first_locals (length tys)) (begin vs (store_with later []))) vs_are (begun_sits k j way tys whole (store_with later []) here are_all) in
          let env = env_of_below results.fresh whole (all_joined _ terms results.terms (terms_grow n results.fresh terms giving.made.grows below) giving.terms) in
          play_as B k j results.fresh _ _ (λ handed. after (or_dismissed (assume_each plain (with_handed (begin (values_at i terms ++ rs) (store_with later [])) handed) method.postconditions)) (λ t. go (returned rs later handed)))
          (λ handed. after_after (or_dismissed (assume_each plain (begin (values_at i terms ++ rs) (store_with later handed)) method.postconditions)) _ go)
          (assume_then B k j results.fresh program plain refl program_is tys tys (within_itself tys) (first_locals (length tys)) (over (env_of whole) way) (begin (values_at i terms ++ rs) (store_with later [])) sits env (path_grows n results.fresh way.path giving.made.grows path)
          method.postconditions more (λ handed t. go (returned rs later handed)) contract.postconditions (first_read program tys method.postconditions contract.postconditions)
          (subst (λ vs. Play B k j results.fresh more (λ handed. go (returned vs later handed))) (sym given.are) (h k j later moves are_results)))
