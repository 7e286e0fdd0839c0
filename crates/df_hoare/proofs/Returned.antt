-- What a callee owes is true of its arguments and of what it gave.
use Rattle.std.proofs.Common.{◌≡◌, ◌≤◌, ◌<◌, ℕ, zero, suc, ◌+◌, Bool, true, false, ◌&&◌, ◌⊎◌, inl, inr, List, [], ◌∷◌, ◌++◌, length, slice_get, Option, Some, None, refl, sym, ap, subst, ◌∙◌, length-append, arith}
use Rattle.std.proofs.lemmas.Bool.{lt-leb}
use Rattle.std.specs.Option.{option_map_or}
use Rattle.std.specs.List.{list_all}
use Rattle.df_lang.specs.declared.ty.Ty.{Ty}
use Rattle.df_lang.specs.Program.{Method, Program, types_of}
use Rattle.df_lang.specs.Typing.{is_type, are_clauses, are_measures, is_method, are_stmts}
use Rattle.df_meaning.specs.declared.kind.Kind.TheVariants as kinds
use Rattle.df_meaning.specs.Value.{Value}
use Rattle.df_meaning.specs.Types.{has_type, have_types}
use Rattle.df_meaning.specs.Outcome.{Outcome, Gives, Wrong, TooDeep, NoChoice, Dismissed, after}
use Rattle.df_meaning.specs.State.{Store, State, begin, value_at}
use Rattle.df_meaning.specs.Meaning.{Meaning, Flow, Returned}
use Rattle.df_meaning.specs.Meaning as flows
use Rattle.df_meaning.specs.Execution.{check_all, execute_all}
use Rattle.df_meaning.specs.Whole.{values_from, results_of, end_of, run_body}
use Rattle.df_meaning.specs.Modular.{plain_meaning}
use Rattle.df_meaning.proofs.Cases.{given, both}
use Rattle.df_meaning.proofs.Stating.{checked_same}
use Rattle.df_meaning.proofs.Wholes.{types_length, body_typed}
use Rattle.df_meaning.proofs.Kept.{AgreesBut, FlowAgrees, KeepsTurns, all_kept}
use Rattle.df_meaning.proofs.Changing.{from_on, all_past}
use Rattle.df_hoare.proofs.Running.{given_is}
use Rattle.df_hoare.proofs.Clauses.{IsMet, read_alike, met_by_check}

-- what was bound gave something
pub bound_gives : {A B : Type 0} (o : Outcome A) (f : A → Outcome B) (y : B) → after o f ≡ Gives y → (x : A) × (o ≡ Gives x) × (f x ≡ Gives y)
bound_gives (Gives x) f y e = (x, refl, e)
bound_gives (Wrong at kind) f y e = absurd (let g : Wrong at kind ≡ Gives y = e in cc)
bound_gives TooDeep f y e = absurd (let g : TooDeep ≡ Gives y = e in cc)
bound_gives NoChoice f y e = absurd (let g : NoChoice ≡ Gives y = e in cc)
bound_gives Dismissed f y e = absurd (let g : Dismissed ≡ Gives y = e in cc)

-- ---- lists

types_fit : (p : Program) (tys : List Ty) (vs : List Value) → have_types p tys vs ≡ true → length vs ≡ length tys
types_fit p [] [] have = refl
types_fit p [] (v ∷ vs) have = absurd (let f : false ≡ true = have in cc)
types_fit p (t ∷ ts) [] have = absurd (let f : false ≡ true = have in cc)
types_fit p (t ∷ ts) (v ∷ vs) have = ap suc (types_fit p ts vs (both (has_type p t v) (have_types p ts vs) have).1)

-- among the first or among the others
among : {A : Type 0} (xs ys : List A) (k : ℕ) (x : A) → slice_get (xs ++ ys) k ≡ Some x → (k < length xs) ⊎ ((j : ℕ) × (k ≡ length xs + j) × (slice_get ys j ≡ Some x))
among [] ys k x e = inr (k, omega arith, e)
among (z ∷ xs) ys zero x e = inl (omega arith)
among (z ∷ xs) ys (suc k) x e = elim (among xs ys k x e) [ inl lt ↦ inl (omega (arith, lt)) | inr there ↦ inr (there.0, (let at : k ≡ length xs + there.0 = there.1 in omega arith), there.2) ]

get_front : {A : Type 0} (xs ys : List A) (k : ℕ) → k < length xs → slice_get (xs ++ ys) k ≡ slice_get xs k
get_front [] ys k lt = absurd (omega (arith, lt))
get_front (x ∷ xs) ys zero lt = refl
get_front (x ∷ xs) ys (suc k) lt = get_front xs ys k (omega (arith, lt))

get_behind : {A : Type 0} (xs ys : List A) (j : ℕ) → slice_get (xs ++ ys) (length xs + j) ≡ slice_get ys j
get_behind [] ys j = ap (slice_get ys) (let e : 0 + j ≡ j = omega arith in e)
get_behind (x ∷ xs) ys j = ap (slice_get (x ∷ (xs ++ ys))) (let e : suc (length xs) + j ≡ suc (length xs + j) = omega arith in e) ∙ get_behind xs ys j

inside : {A : Type 0} (xs : List A) (j : ℕ) (x : A) → slice_get xs j ≡ Some x → j < length xs
inside [] j x e = absurd (let f : None ≡ Some x = e in cc)
inside (z ∷ xs) zero x e = omega arith
inside (z ∷ xs) (suc j) x e = let lt = inside xs j x e in omega arith

-- the results are what stands behind the parameters
results_there : (s : State) (from count : ℕ) (vs : List Value) → values_from s from count ≡ Gives vs → (j : ℕ) → j < count → value_at s (from + j) ≡ slice_get vs j
results_there s from zero vs e j lt = absurd (omega (arith, lt))
results_there s from (suc count) vs e j lt = by_value (value_at s from) refl e (results_there s (suc from) count)
  where
    by_place : (v : Value) (ws : List Value) → value_at s from ≡ Some v → ((j : ℕ) → j < count → value_at s (suc from + j) ≡ slice_get ws j) → (j : ℕ) → j < suc count → value_at s (from + j) ≡ slice_get (v ∷ ws) j
    by_place v ws there rest zero lt = ap (value_at s) (let f : from + 0 ≡ from = omega arith in f) ∙ there
    by_place v ws there rest (suc j) lt = ap (value_at s) (let f : from + suc j ≡ suc from + j = omega arith in f) ∙ rest j (omega (arith, lt))

    by_value : (o : Option Value) → value_at s from ≡ o → option_map_or (λ v. after (values_from s (suc from) count) (λ ws. Gives (v ∷ ws))) o Dismissed ≡ Gives vs
        → ((ws : List Value) → values_from s (suc from) count ≡ Gives ws → (j : ℕ) → j < count → value_at s (suc from + j) ≡ slice_get ws j) → value_at s (from + j) ≡ slice_get vs j
    by_value None there f rest = absurd (let g : Dismissed ≡ Gives vs = f in cc)
    by_value (Some v) there f rest =
        let b = bound_gives (values_from s (suc from) count) (λ ws. Gives (v ∷ ws)) vs f in
        subst (λ (x : List Value). value_at s (from + j) ≡ slice_get x j) (given_is (v ∷ b.0) vs b.2) (by_place v b.0 there (rest b.0 b.1) j lt)

-- ---- the end of a body

ended : (may : ℕ → Bool) (s : State) (flow : Flow) (t : State) → FlowAgrees may may s flow → end_of flow ≡ Gives t → AgreesBut may s t
ended may s (flows.Next u) t agrees e = subst (λ (x : State). AgreesBut may s x) (given_is u t e) agrees
ended may s (flows.Return u) t agrees e = subst (λ (x : State). AgreesBut may s x) (given_is u t e) agrees
ended may s (flows.Break u) t agrees e = absurd (let g : Dismissed ≡ Gives t = e in cc)

module _ (m : Meaning) (keeps : KeepsTurns m) (method : Method) (is : is_method m.program method ≡ true) (arguments : List Value) (store : Store) (have : have_types m.program (types_of method.parameters) arguments ≡ true) where
  abbrev parameters : List Ty
  parameters = types_of method.parameters

  abbrev results : List Ty
  results = types_of method.results

  -- parameters have the arguments as their values, and results what was given
  values_there : (t : State) (vs : List Value) → AgreesBut (from_on (length method.parameters)) (begin arguments store) t → results_of method t ≡ Gives vs
      → (k : ℕ) (ty : Ty) → slice_get (parameters ++ results) k ≡ Some ty → value_at t k ≡ slice_get (arguments ++ vs) k
  values_there t vs agrees gives k ty e = by_place (among parameters results k ty e)
    where
      many : length arguments ≡ length method.parameters
      many = types_fit m.program parameters arguments have ∙ types_length method.parameters

      by_place : (k < length parameters) ⊎ ((j : ℕ) × (k ≡ length parameters + j) × (slice_get results j ≡ Some ty)) → value_at t k ≡ slice_get (arguments ++ vs) k
      by_place (inl lt) =
          let long : length parameters ≡ length method.parameters = types_length method.parameters in
          let count : length arguments ≡ length method.parameters = many in
          agrees k (lt-leb (length method.parameters) k (omega (arith, lt, long))) ∙ sym (get_front arguments vs k (omega (arith, lt, long, count)))
      by_place (inr there) =
          let long : length parameters ≡ length method.parameters = types_length method.parameters in
          let count : length arguments ≡ length method.parameters = many in
          let at : k ≡ length parameters + there.0 = there.1 in
          let at_results : length method.parameters + there.0 ≡ k = omega arith in
          let at_values : length arguments + there.0 ≡ k = omega arith in
          let lt : there.0 < length method.results = subst (λ (n : ℕ). there.0 < n) (types_length method.results) (inside results there.0 ty there.2) in
          ap (value_at t) (sym at_results) ∙ results_there t (length method.parameters) (length method.results) vs gives there.0 lt ∙ sym (get_behind arguments vs there.0) ∙ ap (slice_get (arguments ++ vs)) at_values

  -- what is owed was checked where the body ended
  pub owed_met : (s : State) (t : State) (vs : List Value) → s ≡ begin arguments store → run_body m method s ≡ Gives t → results_of method t ≡ Gives vs → (other : Store) → IsMet m.program (begin (arguments ++ vs) other) method.postconditions
  owed_met s t vs at runs gives other =
      let first = bound_gives (execute_all m s method.body) (λ flow. after (end_of flow) (λ u. check_all m u kinds.Ensures method.postconditions)) t runs in
      let second = bound_gives (end_of first.0) (λ u. check_all m u kinds.Ensures method.postconditions) t first.2 in
      let same : t ≡ second.0 = given (λ (u : State). u ≡ second.0) (check_all m second.0 kinds.Ensures method.postconditions) t (checked_same m second.0 kinds.Ensures method.postconditions) second.2 in
      let may : ℕ → Bool = from_on (length method.parameters) in
      let within = all_past m method method.body (parameters ++ results) false many_locals (body_typed m.program method is) in
      let kept : FlowAgrees may may s first.0 = given (FlowAgrees may may s) (execute_all m s method.body) first.0 (all_kept m keeps may may (λ n e. e) method.body s within) first.1 in
      let agrees : AgreesBut may s second.0 = ended may s first.0 second.0 kept second.1 in
      let agrees_t : AgreesBut may (begin arguments store) t = subst (λ (x : State). AgreesBut may x t) at (subst (λ (x : State). AgreesBut may s x) (sym same) agrees) in
      let checked : check_all m t kinds.Ensures method.postconditions ≡ Gives t = subst (λ (x : State). check_all m x kinds.Ensures method.postconditions ≡ Gives t) (sym same) second.2 in
      met_by_check m (plain_meaning m.program) t (begin (arguments ++ vs) other) t kinds.Ensures method.postconditions
      (read_alike (parameters ++ results) m (plain_meaning m.program) t (begin (arguments ++ vs) other) (record { program = refl; local = values_there t vs agrees_t gives }) method.postconditions clauses) checked
    where
      many_locals : length method.parameters ≤ length (parameters ++ results)
      many_locals = let a : length (parameters ++ results) ≡ length parameters + length results = length-append parameters results in let b : length parameters ≡ length method.parameters = types_length method.parameters in omega arith

      clauses : are_clauses m.program (parameters ++ results) method.postconditions ≡ true
      clauses =
          let front = (both (list_all (is_type m.program) (parameters ++ results) && are_clauses m.program parameters method.preconditions && are_clauses m.program (parameters ++ results) method.postconditions && are_measures m.program parameters method.decreases)
          (are_stmts (record { program = m.program; method = method; locals = parameters ++ results; in_loop = false }) method.body) is).0 in
          let inner = (both (list_all (is_type m.program) (parameters ++ results) && are_clauses m.program parameters method.preconditions && are_clauses m.program (parameters ++ results) method.postconditions) (are_measures m.program parameters method.decreases) front).0 in
          (both (list_all (is_type m.program) (parameters ++ results) && are_clauses m.program parameters method.preconditions) (are_clauses m.program (parameters ++ results) method.postconditions) inner).1
