-- Runs of methods count in a well-typed program that obeys definite assignment, at every depth.
use Rattle.std.proofs.Common.{◌≡◌, ◌≤◌, ◌<◌, ◌+◌, ℕ, zero, suc, nat_lt, Bool, true, false, ◌&&◌, ◌⊎◌, inl, inr, List, [], ◌∷◌, ◌++◌, length, slice_get, is_some, Option, Some, None, refl, sym, ap, subst, ◌∙◌, length-append, arith}
use Rattle.std.proofs.lemmas.Bool.{ltb-true, lt-ltb, lt-leb, cases_lt}
use Rattle.std.specs.Option.{option_map_or}
use Rattle.std.specs.List.{list_all}
use Rattle.df_base.specs.declared.pos.Pos.{Pos}
use Rattle.df_lang.specs.declared.ty.Ty.{Ty}
use Rattle.df_lang.specs.Program.{Method, Program, method_at, types_of}
use Rattle.df_lang.specs.Typing.{is_type, are_clauses, are_measures, are_stmts, is_method, is_well_typed}
use Rattle.df_lang.specs.Measures.{method_measure}
use Rattle.df_lang.specs.Assignment.{reads_of_clauses, reads_of_measures, Assigned, Reached, has_value, unassigned, Flowing, results_at, flow_all, at_entry, unassigned_in, IsDefinitelyAssigned}
use Rattle.df_meaning.specs.declared.kind.Kind.TheVariants as kinds
use Rattle.df_meaning.specs.Value.{truth_of}
use Rattle.df_meaning.specs.Value as values
use Rattle.df_meaning.specs.Outcome.{Outcome, Gives, TooDeep, Dismissed, after}
use Rattle.df_meaning.specs.State.{Store, State, begin, value_at}
use Rattle.df_meaning.specs.Meaning.{Meaning, Flow, Returned, Loop}
use Rattle.df_meaning.specs.Meaning as flows
use Rattle.df_meaning.specs.Execution.{check_all, execute_all}
use Rattle.df_meaning.specs.Whole.{check_call, values_from, results_of, end_of, run_body, run_method, turn_by, call_by, by_depth, whole}
use Rattle.df_meaning.specs.Definite.{Counts, HasValue, AreAssigned, HaveResults, AreFlowing, StatementsCount, MethodsCount}
use Rattle.df_meaning.proofs.Cases.{both, four}
use Rattle.df_meaning.proofs.Wholes.{method_typed, types_length, program_of_depth}
use Rattle.df_meaning.proofs.Kept.{AgreesBut, FlowAgrees, KeepsTurns, all_kept, wholes_keep}
use Rattle.df_meaning.proofs.Changing.{from_on, all_past}
use Rattle.df_meaning.proofs.Counting.{after_counts, counts_more, counts_both, nothing_missing, evaluate_counts, checks_count, owed_counts}
use Rattle.df_lang.proofs.Carrying.{place}
use Rattle.df_meaning.proofs.TypedReads.{clauses_read, method_measure_reads}
use Rattle.df_meaning.proofs.Definite.{all_results, AreLeft, AreResults, IsLoopAssigned, MeaningCounts, types_have, stmt_counts, stmts_count, turn_counts, guard_counts}

-- ---- methods

-- the values of locals from a number on
numbered_count : (s : State) (from count : ℕ) → ((local : ℕ) → from ≤ local → local < from + count → HasValue s local) → Counts (λ (vs : List values.Value). length vs ≡ count) (values_from s from count)
numbered_count s from zero h = refl
numbered_count s from (suc count) h = by_value (value_at s from) (h from (omega arith) (omega arith)) (numbered_count s (suc from) count (λ local le less. h local (omega (arith, le)) (omega (arith, less))))
  where
    by_value : (o : Option values.Value) → is_some o ≡ true → Counts (λ (vs : List values.Value). length vs ≡ count) (values_from s (suc from) count)
        → Counts (λ (vs : List values.Value). length vs ≡ suc count) (option_map_or (λ v. after (values_from s (suc from) count) (λ vs. Gives (v ∷ vs))) o Dismissed)
    by_value None e k = cc
    by_value (Some v) e k = after_counts (λ (vs : List values.Value). length vs ≡ count) (λ (vs : List values.Value). length vs ≡ suc count) (values_from s (suc from) count) _ k (λ vs l. ap suc l)

first_values : (vs : List values.Value) (n : ℕ) → n < length vs → is_some (slice_get vs n) ≡ true
first_values [] n less = absurd (omega (arith, less))
first_values (v ∷ vs) zero less = refl
first_values (v ∷ vs) (suc n) less = first_values vs n (omega (arith, less))

-- the first locals, as many as these, have values
abbrev pub first_locals : ℕ → Assigned
first_locals size = Reached (λ local. nat_lt local size)

pub first_have : (size local : ℕ) → local < size → has_value (first_locals size) local ≡ true
first_have size local less = lt-ltb local size less

pub begun_assigned : (arguments : List values.Value) (store : Store) (size : ℕ) → length arguments ≡ size → AreAssigned (first_locals size) (begin arguments store)
begun_assigned arguments store size e = λ local is. first_values arguments local (let less = ltb-true local size is in omega (arith, less, e))

module _ (program : Program) (m : Meaning) (counts : MeaningCounts program m) (keeps : KeepsTurns m) (method : Method) (is : is_method program method ≡ true) (definite : unassigned_in method ≡ []) where
  abbrev few : ℕ
  few = length method.parameters

  abbrev parameters : List Ty
  parameters = types_of method.parameters

  abbrev all_types : List Ty
  all_types = parameters ++ types_of method.results

  abbrev body : Flowing
  body = flow_all method (at_entry method) method.body

  many_types : length all_types ≡ few + length method.results
  many_types = length-append parameters (types_of method.results) ∙ ap (λ (x : ℕ). x + length (types_of method.results)) (types_length method.parameters) ∙ ap (λ (x : ℕ). few + x) (types_length method.results)

  -- the contract, and the body
  parts : (list_all (is_type program) all_types ≡ true) × (are_clauses program parameters method.preconditions ≡ true) × (are_clauses program all_types method.postconditions ≡ true) × (are_measures program parameters method.decreases ≡ true)
  parts =
      four (list_all (is_type program) all_types) (are_clauses program parameters method.preconditions) (are_clauses program all_types method.postconditions) (are_measures program parameters method.decreases)
      (both (list_all (is_type program) all_types && are_clauses program parameters method.preconditions && are_clauses program all_types method.postconditions && are_measures program parameters method.decreases)
      (are_stmts (place program all_types method false) method.body) is).0

  body_is : are_stmts (place program all_types method false) method.body ≡ true
  body_is =
      (both (list_all (is_type program) all_types && are_clauses program parameters method.preconditions && are_clauses program all_types method.postconditions && are_measures program parameters method.decreases)
      (are_stmts (place program all_types method false) method.body) is).1

  missing : (body.missing ≡ []) × (unassigned body.behind (results_at method method.pos) ≡ [])
  missing = nothing_missing body.missing (unassigned body.behind (results_at method method.pos)) definite

  parameter_there : (local : ℕ) → local < length parameters → has_value (first_locals few) local ≡ true
  parameter_there local less = first_have few local (let long = types_length method.parameters in omega (arith, less, long))

  pub preconditions_read : unassigned (first_locals few) (reads_of_clauses method.preconditions) ≡ []
  preconditions_read = clauses_read program parameters (first_locals few) parameter_there method.preconditions parts.1

  pub measure_reads : unassigned (first_locals few) (reads_of_measures (Some (method_measure method))) ≡ []
  measure_reads = method_measure_reads program parameters (first_locals few) parameter_there method parts.3 (let long = types_length method.parameters in omega (arith, long))

  postconditions_read : unassigned (first_locals (length all_types)) (reads_of_clauses method.postconditions) ≡ []
  postconditions_read = clauses_read program all_types (first_locals (length all_types)) (λ local less. first_have (length all_types) local less) method.postconditions parts.2

  -- where the body ends
  abbrev AreEnded : State → State → Type 0
  AreEnded s t = HaveResults method t × AgreesBut (from_on few) s t

  end_counts : (s : State) (flow : Flow) → AreFlowing method false body flow × FlowAgrees (from_on few) (from_on few) s flow → Counts (AreEnded s) (end_of flow)
  end_counts s (flows.Next t) h = (all_results body.behind t method method.pos missing.1 h.0, h.1)
  end_counts s (flows.Return t) h = h
  end_counts s (flows.Break t) h = absurd (let f : false ≡ true = h.0.0 in cc)

  ended_assigned : (s t : State) → AreAssigned (first_locals few) s → AreEnded s t → AreAssigned (first_locals (length all_types)) t
  ended_assigned s t assigned h = λ local e. by_place local (ltb-true local (length all_types) e) (cases_lt local few)
    where
      by_place : (local : ℕ) → local < length all_types → (local < few) ⊎ (few ≤ local) → HasValue t local
      by_place local less (inl parameter) = ap is_some (h.1 local (lt-leb few local parameter)) ∙ assigned local (lt-ltb local few parameter)
      by_place local less (inr result) = h.0 local result (omega (arith, less, many_types))

  body_counts : (s : State) → AreAssigned (first_locals few) s → Counts (HaveResults method) (run_body m method s)
  body_counts s assigned =
      let may : ℕ → Bool = from_on few in
      let le : few ≤ length all_types = omega (arith, many_types) in
      let goal : State → Type 0 = HaveResults method in
      after_counts (λ (flow : Flow). AreFlowing method false body flow × FlowAgrees may may s flow) goal (execute_all m s method.body) _
      (counts_both (AreFlowing method false body) (FlowAgrees may may s) (execute_all m s method.body)
      (stmts_count program m counts method method.body all_types false (at_entry method) s body_is (λ local e. let less = ltb-true local few e in omega (arith, less, le)) missing.0 assigned)
      (all_kept m keeps may may (λ n e. e) method.body s (all_past (whole program 0) method method.body all_types false le body_is))) (λ flow k.
      after_counts (AreEnded s) goal (end_of flow) _ (end_counts s flow k) (λ t l.
      counts_more (λ (u : State). u ≡ t) goal (check_all m t kinds.Ensures method.postconditions) (λ u e. subst (λ (x : State). HaveResults method x) (sym e) l.0)
      (checks_count m (first_locals (length all_types)) t (ended_assigned s t assigned l) kinds.Ensures method.postconditions postconditions_read)))

  pub method_counts : (at : Pos) (arguments : List values.Value) (store : Store) → length arguments ≡ few → Counts (AreResults method) (run_method m at method arguments store)
  method_counts at arguments store e =
      let begun : AreAssigned (first_locals few) (begin arguments store) = begun_assigned arguments store few e in
      after_counts (λ (t : State). t ≡ begin arguments store) (AreResults method) (check_call m (begin arguments store) at method.preconditions) _
      (owed_counts m (first_locals few) (begin arguments store) begun at method.preconditions preconditions_read) (λ s f.
      after_counts (HaveResults method) (AreResults method) (run_body m method s) _ (body_counts s (subst (λ (x : State). AreAssigned (first_locals few) x) (sym f) begun)) (λ t k.
      after_counts (λ (vs : List values.Value). length vs ≡ length method.results) (AreResults method) (results_of method t) _ (numbered_count t few (length method.results) k) (λ vs l. l)))

-- ---- whole runs

-- calls and turns by depth that count over those that do
pub by_depth_counts : (call : Meaning → Pos → ℕ → List values.Value → Store → Outcome Returned) (turn : Meaning → Loop → State → Outcome Flow) (program : Program)
    → ((m : Meaning) → m.program ≡ program → MeaningCounts program m → KeepsTurns m → (at : Pos) (callee : ℕ) (method : Method) (arguments : List values.Value) (store : Store) → method_at program callee ≡ Some method
    → length arguments ≡ length method.parameters → Counts (AreResults method) (call m at callee arguments store))
    → ((m : Meaning) → MeaningCounts program m → (own : Method) (before : Assigned) (loop : Loop) (s : State) → IsLoopAssigned program own before loop → AreAssigned before s → Counts (AreLeft own before loop) (turn m loop s))
    → ((depth : ℕ) → KeepsTurns (by_depth call turn program depth)) → (depth : ℕ) → MeaningCounts program (by_depth call turn program depth)
by_depth_counts call turn program calls turns keep zero = record {
  call = λ at callee method arguments store there e. tt;
  turns = λ own before loop s is assigned. guard_counts own before loop _ s TooDeep assigned (evaluate_counts _ before s assigned loop.guard is.guard) tt;
}
by_depth_counts call turn program calls turns keep (suc depth) =
    let m : Meaning = by_depth call turn program depth in
    let h = by_depth_counts call turn program calls turns keep depth in
    record {
      call = λ at callee method arguments store there e. calls m (program_of_depth call turn program depth) h (keep depth) at callee method arguments store there e;
      turns = λ own before loop s is assigned. guard_counts own before loop _ s (turn m loop s) assigned (evaluate_counts _ before s assigned loop.guard is.guard) (turns m h own before loop s is assigned);
    }

found_counts : (program : Program) → is_well_typed program ≡ true → IsDefinitelyAssigned program → (m : Meaning) → m.program ≡ program → MeaningCounts program m → KeepsTurns m → (at : Pos) (callee : ℕ) (method : Method) (arguments : List values.Value)
    (store : Store) → method_at program callee ≡ Some method → length arguments ≡ length method.parameters → Counts (AreResults method) (call_by m at callee arguments store)
found_counts program well definite m e counts keeps at callee method arguments store there many =
    subst (λ (o : Option Method). Counts (AreResults method) (option_map_or (λ x. run_method m at x arguments store) o Dismissed)) (sym (subst (λ (p : Program). method_at p callee ≡ Some method) (sym e) there))
    (method_counts program m counts keeps method (method_typed program callee method well there) (definite callee method there) at arguments store many)

pub wholes_count : (program : Program) → is_well_typed program ≡ true → IsDefinitelyAssigned program → (depth : ℕ) → MeaningCounts program (whole program depth)
wholes_count program well definite depth =
    by_depth_counts call_by turn_by program (found_counts program well definite) (λ m h own before loop s is assigned. turn_counts program m h own before loop s is assigned) (wholes_keep program) depth

pub statements_count : StatementsCount
statements_count setting depth before s stmt well definite is declared none assigned =
    stmt_counts setting.program (whole setting.program depth) (wholes_count setting.program well definite depth) setting.method stmt setting.locals setting.in_loop before s is declared none assigned

pub methods_count : MethodsCount
methods_count program depth number pos method arguments store well definite there have =
    method_counts program (whole program depth) (wholes_count program well definite depth) (wholes_keep program depth) method (method_typed program number method well there) (definite number method there) pos arguments store
    (types_have program (types_of method.parameters) arguments have ∙ types_length method.parameters)
