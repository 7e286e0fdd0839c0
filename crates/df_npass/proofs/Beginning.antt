-- A method begins with its arguments; passing over the whole of it tells of its runs.
use Rattle.std.proofs.Common.{slice_index_or}
use Rattle.df_npass.proofs.Words.{Ensures, meaning, ◌≡◌, ℕ, zero, suc, pos, ◌<◌, ◌≤◌, ◌+◌, true, false, List, [], ◌∷◌, ◌++◌, map, length, slice_get, Option, None, Some, refl, sym, ◌∙◌, subst, length-append, arith, ltb-true, lt-ltb, length-map, option_map_or, Ty, Measure, Param, Method, Program, types_of, method_measure, is_method, is_well_typed, at_entry, results_at, unassigned, unassigned_in, reads_of_clauses, reads_of_measures, Flowing, flow_all, Value, Outcome, after, State, store_with, begin, AreDeclared, check_all, end_of, run_body, measure_values, modular, modular_run, plain_meaning, Running, nothing_missing, all_carry, Within, before_all, within_front, first_locals, begun_assigned, program_of_modular, Sort, Numbers, Truths, Characters, Term, literal, sort_of_type, Interpretation, has_sort, Environment, Measured, measured, IsSorted, IsBelow, Said, Way, some_term, is_unset, any_values, assert_measure, pass_all, locals_of, unset, way_in, require_all, ended, setting_of, handed_in, same_Some}
use Rattle.df_npass.proofs.Runs.{Mode, is_taking, ahead, Play, EnvBelow, measured_below, any_giving, over_below, all_flows, values_at, AreOf, with_handed, SortedAll, Sits, require_then, measures_then, method_measure_typed, all_declare, nesting_all, few, HasParameters, by_option, of_long, over_value, Contract, contract_of, first_read, measure_read}
use Rattle.df_npass.proofs.Passing.{stmts_then}
use Rattle.df_npass.proofs.Ending.{ended_onward}

-- ---- the way in

some_sorted : (i : Interpretation) (sort : Sort) → has_sort sort (meaning i (some_term sort)) ≡ true
some_sorted i Numbers = refl
some_sorted i Truths = refl
some_sorted i Characters = refl

some_below : (n : ℕ) (sort : Sort) → IsBelow n (some_term sort)
some_below n Numbers = refl
some_below n Truths = refl
some_below n Characters = refl

unset_sorted : (i : Interpretation) (all : List Ty) → SortedAll i all (unset all)
unset_sorted i all k ty e =
    subst (λ (o : Option Ty). IsSorted ty (meaning i (option_map_or (λ (t : Ty). some_term (sort_of_type t)) o (literal (pos 0))))) (sym e) (some_sorted i (sort_of_type ty))

over_sorted : (i : Interpretation) (tys : List Ty) (terms : List Term) (at : ℕ → Option Ty) (env : Environment) → AreOf i tys terms → ((k : ℕ) (ty : Ty) → slice_get tys k ≡ Some ty → at k ≡ Some ty)
    → ((k : ℕ) (ty : Ty) → at k ≡ Some ty → IsSorted ty (meaning i (env k))) → (k : ℕ) (ty : Ty) → at k ≡ Some ty → IsSorted ty (meaning i (slice_index_or terms k (env k)))
over_sorted i [] [] at env of within h k ty e = h k ty e
over_sorted i (t ∷ tys) (a ∷ terms) at env of within h zero ty e = subst (λ (x : Ty). IsSorted x (meaning i a)) (same_Some t ty (sym (within 0 t refl) ∙ e)) of.0.sorted
over_sorted i (t ∷ tys) (a ∷ terms) at env of within h (suc k) ty e = over_sorted i tys terms (λ x. at (suc x)) (λ x. env (suc x)) of.1 (λ x u f. within (suc x) u f) (λ x u f. h (suc x) u f) k ty e
over_sorted i tys terms at env of within h k ty e = absurd of

over_set : (i : Interpretation) (tys : List Ty) (terms : List Term) (env : Environment) → AreOf i tys terms → (k : ℕ) → k < length tys → is_unset (slice_index_or terms k (env k)) ≡ false
over_set i [] [] env of k less = absurd (omega (arith, less))
over_set i (t ∷ tys) (a ∷ terms) env of zero less = of.0.set
over_set i (t ∷ tys) (a ∷ terms) env of (suc k) less = over_set i tys terms (λ x. env (suc x)) of.1 k (omega (arith, less))
over_set i tys terms env of k less = absurd of

-- ---- the whole method

module _ (program : Program) (well : is_well_typed program ≡ true) (groups : List ℕ) (number : ℕ) (method : Method) (is : is_method program method ≡ true) (definite : unassigned_in method ≡ []) where
  abbrev parameters : List Ty
  parameters = types_of method.parameters

  abbrev tys : List Ty
  tys = parameters ++ types_of method.results

  abbrev all : List Ty
  all = locals_of method

  abbrev n : ℕ
  n = (any_values None method.parameters 0).fresh

  abbrev terms : List Term
  terms = (any_values None method.parameters 0).terms

  abbrev way : Way
  way = way_in method

  abbrev measures : List Measure
  measures = method_measure method

  abbrev entry : List Measured
  entry = measured way.env measures

  -- what is said behind the arguments
  abbrev pub behind_arguments : List Said
  behind_arguments =
      let flow = pass_all (setting_of program groups number method) way method.body n in
      require_all way method.preconditions ++ (assert_measure way measures ++ (flow.said ++ ended method flow))

  contract : Contract program method
  contract = contract_of program method is

  within : Within tys all
  within = before_all tys all method.body (record { at = λ k ty e. e })

  within_parameters : Within parameters all
  within_parameters = within_front parameters (types_of method.results) all within

  many_parameters : length parameters ≡ few method
  many_parameters = length-map method.parameters (λ (param : Param). param.ty)

  begun : (mode : Mode) (i : Interpretation) (text : List ℕ) → AreOf i parameters terms → Sits mode i all way (at_entry method) (begin (values_at i terms) (store_with text []))
  begun mode i text of = record {
    there = refl;
    sorted = λ k ty e. over_sorted i parameters terms (slice_get all) (unset all) of (λ x u f. within_parameters.at x u f) (unset_sorted i all) k ty e;
    holds = (tt, λ k v has e. over_value i terms (unset all) k v e);
    set = λ k has. over_set i parameters terms (unset all) of k (let less = ltb-true k (few method) has in omega (arith, less, many_parameters));
    present = λ following. begun_assigned (values_at i terms) (store_with text []) (few method) (length-map terms (meaning i) ∙ (of_long i parameters terms of ∙ many_parameters));
  }

  env_is : EnvBelow n way.env
  env_is k = over_below n terms (unset all) (any_giving None method.parameters 0 tt).terms (λ x. by_option (IsBelow n) (λ (t : Ty). some_term (sort_of_type t)) (slice_get all x) (literal (pos 0)) (λ e. refl) (λ ty e. some_below n (sort_of_type ty))) k

  pub method_play : (mode : Mode) (i : Interpretation) (depth : ℕ) (text : List ℕ) → i.program ≡ program → AreOf i parameters terms → (is_taking mode ≡ false → nesting_all method.body ≤ depth)
      → Play State (ahead (handed_in i program groups number method) mode) i n behind_arguments (λ handed. modular_run program groups depth number method (values_at i terms) (store_with text handed))
  method_play mode i depth text program_is of deep =
      let plain = plain_meaning program in
      let s = begin (values_at i terms) (store_with text []) in
      let start = ahead (handed_in i program groups number method) mode in
      let sits = begun start i text of in
      let before = at_entry method in
      let flow = pass_all (setting_of program groups number method) way method.body n in
      let flowing : Flowing = flow_all method before method.body in
      let none = nothing_missing flowing.missing (unassigned flowing.behind (results_at method method.pos)) definite in
      let long : length tys ≡ length parameters + length (types_of method.results) = length-append parameters (types_of method.results) in
      let le : few method ≤ length tys = omega (arith, long, many_parameters) in
      let declared : AreDeclared (length tys) before = (λ k has. let less = ltb-true k (few method) has in omega (arith, less, le)) in
      let params : HasParameters method before = (λ k less. lt-ltb k (few method) less) in
      let entry_below = measured_below n way.env env_is measures in
      let flows_body = all_flows (setting_of program groups number method) way method.body n env_is tt entry_below in
      let all_types = (all_declare program method 0 method.body tys false contract.body).typed contract.types in
      let carried = all_carry program method method.body tys false before contract.body declared in
      let run_on : List Value → State → Outcome State = (λ entered t. run_body (modular (record { program = program; groups = groups; number = number; entry = entered }) depth) method t) in
      require_then State start i n program plain refl program_is parameters all within_parameters before way s sits env_is tt method.preconditions (assert_measure way measures ++ (flow.said ++ ended method flow))
      (λ handed t. after (measure_values plain t measures) (λ entered. run_on entered t)) contract.preconditions (subst (λ (x : ℕ). unassigned (first_locals x) (reads_of_clauses method.preconditions) ≡ []) many_parameters (first_read program parameters method.preconditions contract.preconditions))
      (measures_then State start i n program plain refl program_is parameters all within_parameters before way s sits env_is tt measures (flow.said ++ ended method flow) (λ handed entered. run_on entered (with_handed s handed))
      (method_measure_typed program method contract.decreases) (subst (λ (x : ℕ). unassigned (first_locals x) (reads_of_measures (Some measures)) ≡ []) many_parameters (measure_read program method contract.decreases)) (λ are.
      let entered = map (λ (one : Measured). meaning i one.value) entry in
      let run : Running = record { program = program; groups = groups; number = number; entry = entered } in
      let m = modular run depth in
      stmts_then State program well groups number entry entered method all all_types method.body depth tys false before mode i n way s (ended method flow) (λ f. after (end_of f) (λ t. check_all m t Ensures method.postconditions))
      (record { at = λ k ty e. e }) contract.body declared params le none.0 deep
      (record { env = env_is; path = tt; below = entry_below; entered_is = record { program_is = program_is; values = refl; measured = are }; sits = begun mode i text of })
      (ended_onward program method all within contract.postconditions m (program_of_modular run depth) n mode i flow program_is env_is sits.sorted flows_body flowing.behind flowing.breaks (λ k less. carried.kept k (omega (arith, less, le)) (params k less)) none.1)))
