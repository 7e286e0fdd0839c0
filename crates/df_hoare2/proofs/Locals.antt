-- Which values parameters and results have.
use Rattle.std.proofs.Common.{◌≡◌, ℕ, suc, Bool, true, false, not, ◌||◌, ◌==◌, if◌then◌else◌, List, [], ◌∷◌, ◌++◌, map, length, None, Some, refl, ap, subst, ◌∙◌, eqb-true, arith}
use Rattle.std.specs.Option.{unwrap_or}
use Rattle.std.proofs.lemmas.Bool.{and_parts, and_from}
use Rattle.df_lemmas.proofs.Numbers.{equal_self}
use Rattle.df_types.specs.Ty.{Tys, instance_of}
use Rattle.df_types.specs.Program.{Param, Head, Program, types_of, result_type}
use Rattle.df_types.specs.Sites.{is_in, are_distinct}
use Rattle.df_types.specs.Typing.{numbers_of, exit_scope}
use Rattle.df_meaning2.specs.Value.{Value, NullReference, values_of}
use Rattle.df_meaning2.specs.Heap.{Heap}
use Rattle.df_meaning2.specs.Outcome.{Gives, Dismissed, after}
use Rattle.df_meaning2.specs.Types.{is_of, have_types}
use Rattle.df_meaning2.specs.State.{Locals, State, set_local, given}
use Rattle.df_meaning2.specs.Modular.{handed, result_local, leaving}
use Rattle.df_meaning2.specs.Correct.{beginning}
use Rattle.df_meaning2.specs.Typed.{IsOf, AreOf}
use Rattle.df_hoare2.proofs.Reading.{is_there}
use Rattle.df_hoare2.proofs.TypeArguments.{Closed}
use Rattle.df_hoare2.proofs.Heads.{HeadIs, IsThere, AreTyped, given_keeps, given_other, given_typed, scope_agrees, in_scope, parameters_there, numbers_join}
use Rattle.df_hoare2.proofs.WholeTypes.{results_are, begun_typed}
use Rattle.df_hoare2.proofs.Meeting.{Stands}
use Rattle.df_hoare2.proofs.Resulting.{Looked}

neither : (a b : Bool) → (a || b) ≡ false → (a ≡ false) × (b ≡ false)
neither true b h = cc
neither false b h = (refl, h)

is_false : (b : Bool) → not b ≡ true → b ≡ false
is_false true h = cc
is_false false h = refl

-- ---- numbers that are apart

front_without : (n : ℕ) (xs ys : List Param) → is_in n (numbers_of (xs ++ ys)) ≡ false → (is_in n (numbers_of xs) ≡ false) × (is_in n (numbers_of ys) ≡ false)
front_without n [] ys h = (refl, h)
front_without n (x ∷ xs) ys h =
    let parts = neither (x.local == n) (is_in n (numbers_of (xs ++ ys))) h in
    let rest = front_without n xs ys parts.1 in
    (ap (λ b. b || is_in n (numbers_of xs)) parts.0 ∙ rest.0, rest.1)

pub distinct_front : (xs ys : List Param) → are_distinct (numbers_of (xs ++ ys)) ≡ true → are_distinct (numbers_of xs) ≡ true
distinct_front [] ys h = refl
distinct_front (x ∷ xs) ys h =
    let parts = and_parts (not (is_in x.local (numbers_of (xs ++ ys)))) (are_distinct (numbers_of (xs ++ ys))) h in
    let out = front_without x.local xs ys (is_false (is_in x.local (numbers_of (xs ++ ys))) parts.0) in
    and_from (not (is_in x.local (numbers_of xs))) (are_distinct (numbers_of xs)) (ap not out.0) (distinct_front xs ys parts.1)

pub distinct_back : (xs ys : List Param) → are_distinct (numbers_of (xs ++ ys)) ≡ true → are_distinct (numbers_of ys) ≡ true
distinct_back [] ys h = h
distinct_back (x ∷ xs) ys h = distinct_back xs ys (and_parts (not (is_in x.local (numbers_of (xs ++ ys)))) (are_distinct (numbers_of (xs ++ ys))) h).1

pub distinct_apart : (xs ys : List Param) (n : ℕ) → are_distinct (numbers_of (xs ++ ys)) ≡ true → is_in n (numbers_of xs) ≡ true → is_in n (numbers_of ys) ≡ false
distinct_apart [] ys n h e = cc
distinct_apart (x ∷ xs) ys n h e = by_test (x.local == n) refl e (distinct_apart xs ys n parts.1)
  where
    parts : (not (is_in x.local (numbers_of (xs ++ ys))) ≡ true) × (are_distinct (numbers_of (xs ++ ys)) ≡ true)
    parts = and_parts (not (is_in x.local (numbers_of (xs ++ ys)))) (are_distinct (numbers_of (xs ++ ys))) h

    by_test : (b : Bool) → (x.local == n) ≡ b → (b || is_in n (numbers_of xs)) ≡ true → (is_in n (numbers_of xs) ≡ true → is_in n (numbers_of ys) ≡ false) → is_in n (numbers_of ys) ≡ false
    by_test true f e rest = subst (λ k. is_in k (numbers_of ys) ≡ false) (eqb-true x.local n f) (front_without x.local xs ys (is_false (is_in x.local (numbers_of (xs ++ ys))) parts.0)).1
    by_test false f e rest = rest e

-- ---- lookups

pub set_itself : (locals : Locals) (n : ℕ) (v : Value) → set_local locals n (Some v) n ≡ Some v
set_itself locals n v = ap (λ (b : Bool). if b then Some v else locals n) (equal_self n)

pub given_looked : (p : Program) (types : Tys) (xs : List Param) (vs : List Value) (locals : Locals) → are_distinct (numbers_of xs) ≡ true → have_types p (map (instance_of types) (types_of xs)) (values_of vs) ≡ true → Looked xs vs (given xs vs locals)
given_looked p types [] [] locals d h = tt
given_looked p types [] (v ∷ vs) locals d h = cc
given_looked p types (x ∷ xs) [] locals d h = cc
given_looked p types (x ∷ xs) (v ∷ vs) locals d h =
    let parts = and_parts (not (is_in x.local (numbers_of xs))) (are_distinct (numbers_of xs)) d in (
      given_other xs vs (set_local locals x.local (Some v)) x.local (is_false (is_in x.local (numbers_of xs)) parts.0) ∙ set_itself locals x.local v,
      given_looked p types xs vs (set_local locals x.local (Some v)) parts.1 (and_parts _ (have_types p (map (instance_of types) (types_of xs)) (values_of vs)) h).1,
    )

pub looked_other : (ys : List Param) (ws : List Value) (xs : List Param) (vs : List Value) (locals : Locals) → ((n : ℕ) → is_in n (numbers_of xs) ≡ true → is_in n (numbers_of ys) ≡ false) → Looked xs vs locals → Looked xs vs (given ys ws locals)
looked_other ys ws [] [] locals h k = tt
looked_other ys ws [] (v ∷ vs) locals h k = k
looked_other ys ws (x ∷ xs) [] locals h k = k
looked_other ys ws (x ∷ xs) (v ∷ vs) locals h k = (
  given_other ys ws locals x.local (h x.local (ap (λ b. b || is_in x.local (numbers_of xs)) (equal_self x.local))) ∙ k.0,
  looked_other ys ws xs vs locals (λ n e. h n (wider (x.local == n) (is_in n (numbers_of xs)) e)) k.1,
)
  where
    wider : (a b : Bool) → b ≡ true → (a || b) ≡ true
    wider true b e = refl
    wider false b e = e

-- ---- what is handed in for parameters

pub handed_is : (p : Program) (types : Tys) (xs : List Param) (vs : List Value) (locals : Locals) → Looked xs vs locals → have_types p (map (instance_of types) (types_of xs)) (values_of vs) ≡ true → handed p types (λ n. unwrap_or (locals n) NullReference) xs ≡ Gives vs
handed_is p types [] [] locals k h = refl
handed_is p types [] (v ∷ vs) locals k h = absurd k
handed_is p types (x ∷ xs) [] locals k h = absurd k
handed_is p types (x ∷ xs) (v ∷ vs) locals k h =
    let parts = and_parts (is_of p types x.ty v) (have_types p (map (instance_of types) (types_of xs)) (values_of vs)) h in
    let free : ℕ → Value = λ n. unwrap_or (locals n) NullReference in
    let found : free x.local ≡ v = ap (λ o. unwrap_or o NullReference) k.0 in
    ap (λ w. if is_of p types x.ty w then after (handed p types free xs) (λ ws. Gives (w ∷ ws)) else Dismissed) found
    ∙ ap (λ b. if b then after (handed p types free xs) (λ ws. Gives (v ∷ ws)) else Dismissed) parts.0
    ∙ ap (λ o. after o (λ ws. Gives (v ∷ ws))) (handed_is p types xs vs locals k.1 parts.1)

-- ---- where a function ends

pub two : (n : ℕ) → (suc (suc n) == 1) ≡ true → ⊥
two n h = let e : suc (suc n) ≡ 1 = eqb-true (suc (suc n)) 1 h in omega (arith, e)

-- one result has the value
pub result_typed : (p : Program) (types : Tys) (xs : List Param) (v : Value) → (length xs == 1) ≡ true → IsOf p types (result_type xs) v → have_types p (map (instance_of types) (types_of xs)) (values_of (v ∷ [])) ≡ true
result_typed p types [] v one h = cc
result_typed p types (x ∷ []) v one h = and_from (is_of p types x.ty v) true h.by refl
result_typed p types (x ∷ y ∷ xs) v one h = absurd (two (length xs) one)

pub result_looked : (xs : List Param) (v : Value) (locals : Locals) → (length xs == 1) ≡ true → given xs (v ∷ []) locals (result_local xs) ≡ Some v
result_looked [] v locals one = cc
result_looked (x ∷ []) v locals one = set_itself locals x.local v
result_looked (x ∷ y ∷ xs) v locals one = absurd (two (length xs) one)

module _ (p : Program) (head : Head) (is : HeadIs p head) (types : Tys) (arguments : List Value) (heap : Heap) (closed : Closed p head.type_parameters types) (typed : AreOf p types (types_of head.parameters) arguments) where
  abbrev left : List Value → State
  left vs = leaving head.results vs (beginning head types arguments heap)

  pub left_typed : (vs : List Value) → AreOf p types (types_of head.results) vs → AreTyped p head types (left vs).locals
  left_typed vs k = given_typed p head types head.results vs (given head.parameters arguments (λ n. None)) (results_are head p is) k.by (begun_typed p head is types arguments typed)

  left_there : (vs : List Value) → AreOf p types (types_of head.results) vs → (n : ℕ) → is_there (exit_scope head) n ≡ true → IsThere ((left vs).locals n)
  left_there vs k n e = by_test (is_in n (numbers_of head.parameters)) refl
    where
      by_test : (b : Bool) → is_in n (numbers_of head.parameters) ≡ b → IsThere ((left vs).locals n)
      by_test true f = given_keeps head.results vs (given head.parameters arguments (λ n. None)) n (parameters_there p types head.parameters arguments (λ n. None) n typed.by f)
      by_test false f = parameters_there p types head.results vs (given head.parameters arguments (λ n. None)) n k.by (numbers_join n head.parameters head.results (in_scope head (numbers_of (head.parameters ++ head.results)) n e) f)

  pub left_stands : (vs : List Value) → AreOf p types (types_of head.results) vs → Stands p (is_there (exit_scope head)) (exit_scope head) (left vs)
  left_stands vs k = record {
    agrees = scope_agrees p head (numbers_of (head.parameters ++ head.results)) (left vs) refl (left_typed vs k);
    there = left_there vs k;
    closed = closed;
  }

  pub left_looked : (vs : List Value) → Looked head.parameters arguments (left vs).locals
  left_looked vs = looked_other head.results vs head.parameters arguments (given head.parameters arguments (λ n. None)) (λ n e. distinct_apart head.parameters head.results n is.distinct e)
      (given_looked p types head.parameters arguments (λ n. None) (distinct_front head.parameters head.results is.distinct) typed.by)
