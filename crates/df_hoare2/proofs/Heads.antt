-- What is known of declarations of a well-typed program, and of where they begin and end.
use Rattle.std.proofs.Common.{◌≡◌, ℕ, zero, suc, Bool, true, false, ◌||◌, ◌==◌, if◌then◌else◌, List, [], ◌∷◌, ◌++◌, map, length, slice_get, Option, None, Some, refl, sym, ap, subst, ◌∙◌, eqb-true, arith}
use Rattle.std.specs.Option.{is_some, option_map, option_map_or, option_and_then}
use Rattle.std.specs.List.{list_all}
use Rattle.std.proofs.lemmas.Bool.{and_parts}
use Rattle.df_types.specs.Ty.{Ty, Tys, same_type, instance_of}
use Rattle.df_types.specs.Program.{Variable, Param, Head, Function, Method, Decl, NewtypeDecl, DatatypeDecl, ClassDecl, FunctionDecl, MethodDecl, Program, as_function, as_method, function_at, types_of, result_type}
use Rattle.df_types.specs.Sites.{is_in, are_distinct, have_sites}
use Rattle.df_types.specs.ExprTyping.{is_expr}
use Rattle.df_types.specs.StmtTyping.{type_of_local, scope_with, same_mark, are_demands, are_frame, may_be_typed}
use Rattle.df_types.specs.Typing.{numbers_of, is_variable, is_param, are_variables, are_ghosts, is_receiver, entry_scope, exit_scope, is_head, is_result_of, is_function, is_decl, are_decls, is_program}
use Rattle.df_types.proofs.SameTypes.{same_type_equal}
use Rattle.df_meaning2.specs.Value.{Value, values_of}
use Rattle.df_meaning2.specs.Types.{have_types}
use Rattle.df_meaning2.specs.State.{Locals, State, set_local, given}
use Rattle.df_meaning2.specs.Typed.{IsOf, Agrees}
use Rattle.df_hoare2.proofs.Reading.{is_there}

-- ---- declarations

pub record HeadIs (p : Program) (head : Head) : Type 0 where
  pub variables : are_variables p head.type_parameters head.locals ≡ true
  pub params : list_all (is_param head) (head.parameters ++ head.results) ≡ true
  pub distinct : are_distinct (numbers_of (head.parameters ++ head.results)) ≡ true
  pub preconditions : are_demands p (entry_scope head) head.preconditions ≡ true
  pub frame : are_frame p (entry_scope head) head.frame ≡ true
  pub decreases : may_be_typed p (entry_scope head) head.decreases ≡ true
  pub postconditions : are_demands p (exit_scope head) head.postconditions ≡ true

pub head_is : (p : Program) (head : Head) → is_head p head ≡ true → HeadIs p head
head_is p head h =
    let a = and_parts (are_variables p head.type_parameters head.locals) _ h in
    let b = and_parts (list_all (is_param head) (head.parameters ++ head.results)) _ a.1 in
    let c = and_parts (are_distinct (numbers_of (head.parameters ++ head.results))) _ b.1 in
    let d = and_parts (is_receiver head head.receiver) _ c.1 in
    let e = and_parts (are_ghosts head) _ d.1 in
    let f = and_parts (are_demands p (entry_scope head) head.preconditions) _ e.1 in
    let g = and_parts (are_frame p (entry_scope head) head.frame) _ f.1 in
    let i = and_parts (may_be_typed p (entry_scope head) head.decreases) (are_demands p (exit_scope head) head.postconditions) g.1 in
    record { variables = a.0; params = b.0; distinct = c.0; preconditions = f.0; frame = g.0; decreases = i.0; postconditions = i.1 }

pub found_function : (o : Option Decl) (f : Function) → option_and_then as_function o ≡ Some f → o ≡ Some (FunctionDecl f)
found_function None f e = cc
found_function (Some (NewtypeDecl x)) f e = cc
found_function (Some (DatatypeDecl x)) f e = cc
found_function (Some (ClassDecl x)) f e = cc
found_function (Some (FunctionDecl x)) f e = ap (λ (o : Option Function). option_map FunctionDecl o) e
found_function (Some (MethodDecl x)) f e = cc

pub found_method : (o : Option Decl) (m : Method) → option_and_then as_method o ≡ Some m → o ≡ Some (MethodDecl m)
found_method None m e = cc
found_method (Some (NewtypeDecl x)) m e = cc
found_method (Some (DatatypeDecl x)) m e = cc
found_method (Some (ClassDecl x)) m e = cc
found_method (Some (FunctionDecl x)) m e = cc
found_method (Some (MethodDecl x)) m e = ap (λ (o : Option Method). option_map MethodDecl o) e

-- its number aside
abbrev pub is_one : Program → Decl → Type 0
is_one p d = (k : ℕ) × (is_decl p k d ≡ true)

decl_is : (p : Program) (from n : ℕ) (ds : List Decl) (d : Decl) → are_decls p from ds ≡ true → slice_get ds n ≡ Some d → is_one p d
decl_is p from n [] d h e = cc
decl_is p from zero (x ∷ xs) d h e =
    let same : x ≡ d = let k : Some x ≡ Some d = e in cc in
    subst (is_one p) same (from, (and_parts (is_decl p from x) (are_decls p (suc from) xs) h).0)
decl_is p from (suc n) (x ∷ xs) d h e = decl_is p (suc from) n xs d (and_parts (is_decl p from x) (are_decls p (suc from) xs) h).1 e

pub record FunctionIs (p : Program) (f : Function) : Type 0 where
  pub head : HeadIs p f.head
  pub one_result : (length f.head.results == 1) ≡ true
  pub value : is_expr p (entry_scope f.head) (result_type f.head.results) f.value ≡ true

module _ (p : Program) (well : is_program p ≡ true) where
  pub function_is : (number : ℕ) (f : Function) → function_at p number ≡ Some f → FunctionIs p f
  function_is number f e =
      let one = decl_is p 0 number p.decls (FunctionDecl f) well (found_function (slice_get p.decls number) f e) in
      let is = (and_parts (is_function p f) (have_sites (FunctionDecl f)) one.1).0 in
      let a = and_parts (is_head p f.head) _ is in
      let b = and_parts (length f.head.results == 1) _ a.1 in
      let c = and_parts (list_all (is_result_of f.head) f.head.results) (is_expr p (entry_scope f.head) (result_type f.head.results) f.value) b.1 in
      record { head = head_is p f.head a.0; one_result = b.0; value = c.1 }

-- ---- parameters and results that have been given

pub record IsThere (o : Option Value) : Type 0 where
  pub value : Value
  pub is : o ≡ Some value

pub in_tail : (n k : ℕ) (ns : List ℕ) (b : Bool) → (k == n) ≡ b → is_in n (k ∷ ns) ≡ true → (b ≡ false → is_in n ns ≡ true)
in_tail n k ns true e h f = cc
in_tail n k ns false e h f = subst (λ (c : Bool). (c || is_in n ns) ≡ true) e h

differs : (a b : ℕ) → (a == b) ≡ (b == a)
differs a b = by_test (a == b) (b == a) refl refl
  where
    by_test : (c d : Bool) → (a == b) ≡ c → (b == a) ≡ d → (a == b) ≡ (b == a)
    by_test true d e f = ap (λ x. x == b) (eqb-true a b e) ∙ ap (λ x. b == x) (sym (eqb-true a b e))
    by_test false true e f = ap (λ x. a == x) (eqb-true b a f) ∙ ap (λ x. x == a) (sym (eqb-true b a f))
    by_test false false e f = e ∙ sym f

-- a local that has a value keeps one
pub given_keeps : (xs : List Param) (vs : List Value) (locals : Locals) (n : ℕ) → IsThere (locals n) → IsThere (given xs vs locals n)
given_keeps [] vs locals n h = h
given_keeps (x ∷ xs) [] locals n h = h
given_keeps (x ∷ xs) (v ∷ vs) locals n h = given_keeps xs vs (set_local locals x.local (Some v)) n (by_test (n == x.local))
  where
    by_test : (b : Bool) → IsThere (if b then Some v else locals n)
    by_test true = record { value = v; is = refl }
    by_test false = h

pub given_there : (p : Program) (ts : List Ty) (xs : List Param) (vs : List Value) (locals : Locals) (n : ℕ) → length ts ≡ length xs → have_types p ts (values_of vs) ≡ true → is_in n (numbers_of xs) ≡ true → IsThere (given xs vs locals n)
given_there p ts [] vs locals n same h e = cc
given_there p [] (x ∷ xs) vs locals n same h e = absurd (let k : 0 ≡ suc (length xs) = same in omega (arith, k))
given_there p (t ∷ ts) (x ∷ xs) [] locals n same h e = cc
given_there p (t ∷ ts) (x ∷ xs) (v ∷ vs) locals n same h e =
    by_test (x.local == n) refl (λ k. given_there p ts xs vs (set_local locals x.local (Some v)) n (let s : suc (length ts) ≡ suc (length xs) = same in omega (arith, s)) (and_parts _ (have_types p ts (values_of vs)) h).1 k)
  where
    by_test : (b : Bool) → (x.local == n) ≡ b → (is_in n (numbers_of xs) ≡ true → IsThere (given xs vs (set_local locals x.local (Some v)) n)) → IsThere (given xs vs (set_local locals x.local (Some v)) n)
    by_test true f rest = given_keeps xs vs (set_local locals x.local (Some v)) n (record { value = v; is = ap (λ (b : Bool). if b then Some v else locals n) (differs n x.local ∙ f) })
    by_test false f rest = rest (in_tail n x.local (numbers_of xs) false f e refl)

-- another local is as it was
pub given_other : (xs : List Param) (vs : List Value) (locals : Locals) (n : ℕ) → is_in n (numbers_of xs) ≡ false → given xs vs locals n ≡ locals n
given_other [] vs locals n e = refl
given_other (x ∷ xs) [] locals n e = refl
given_other (x ∷ xs) (v ∷ vs) locals n e =
    given_other xs vs (set_local locals x.local (Some v)) n (second_false (x.local == n) (is_in n (numbers_of xs)) e) ∙ ap (λ (b : Bool). if b then Some v else locals n) (differs n x.local ∙ first_false (x.local == n) (is_in n (numbers_of xs)) e)
  where
    first_false : (a b : Bool) → (a || b) ≡ false → a ≡ false
    first_false true b e = cc
    first_false false b e = refl

    second_false : (a b : Bool) → (a || b) ≡ false → b ≡ false
    second_false true b e = cc
    second_false false b e = e

module _ (p : Program) (head : Head) (types : Tys) where
  -- each local of the declaration that has a value has one of its type
  abbrev pub AreTyped : Locals → Type 0
  AreTyped locals = (n : ℕ) (t : Ty) (v : Value) → type_of_local head n ≡ Some t → locals n ≡ Some v → IsOf p types t v

  pub none_typed : AreTyped (λ n. None)
  none_typed n t v e f = cc

  param_type : (x : Param) (t : Ty) → is_param head x ≡ true → type_of_local head x.local ≡ Some t → x.ty ≡ t
  param_type x t is e = by_local (slice_get head.locals x.local) is e
    where
      by_local : (o : Option Variable) → option_map_or (is_variable x) o false ≡ true → option_map (λ (y : Variable). y.ty) o ≡ Some t → x.ty ≡ t
      by_local None is e = cc
      by_local (Some y) is e =
          let same : x.ty ≡ y.ty = same_type_equal x.ty y.ty (and_parts (same_type x.ty y.ty) (same_mark x.is_ghost y.is_ghost) is).0 in
          let has : y.ty ≡ t = let k : Some y.ty ≡ Some t = e in cc in
          same ∙ has

  pub set_typed : (locals : Locals) (k : ℕ) (u : Ty) (v : Value) → AreTyped locals → ((t : Ty) → type_of_local head k ≡ Some t → u ≡ t) → IsOf p types u v → AreTyped (set_local locals k (Some v))
  set_typed locals k u v h same is n t w e f = by_test (n == k) refl f
    where
      by_test : (b : Bool) → (n == k) ≡ b → (if b then Some v else locals n) ≡ Some w → IsOf p types t w
      by_test true g f =
          let one : v ≡ w = let c : Some v ≡ Some w = f in cc in
          subst (λ x. IsOf p types t x) one (subst (λ x. IsOf p types x v) (same t (ap (type_of_local head) (sym (eqb-true n k g)) ∙ e)) is)
      by_test false g f = h n t w e f

  pub given_typed : (xs : List Param) (vs : List Value) (locals : Locals) → list_all (is_param head) xs ≡ true → have_types p (map (instance_of types) (types_of xs)) (values_of vs) ≡ true → AreTyped locals → AreTyped (given xs vs locals)
  given_typed [] vs locals are k h = h
  given_typed (x ∷ xs) [] locals are k h = h
  given_typed (x ∷ xs) (v ∷ vs) locals are k h =
      let parts = and_parts (is_param head x) (list_all (is_param head) xs) are in
      let of = and_parts _ (have_types p (map (instance_of types) (types_of xs)) (values_of vs)) k in
      given_typed xs vs (set_local locals x.local (Some v)) parts.1 of.1 (set_typed locals x.local x.ty v h (λ t e. param_type x t parts.0 e) (record { by = of.0 }))

-- ---- scopes of some locals

scope_local : (head : Head) (ns : List ℕ) (n : ℕ) (t : Ty) → (scope_with head ns).locals n ≡ Some t → type_of_local head n ≡ Some t
scope_local head ns n t e = by_test (is_in n ns) e
  where
    by_test : (b : Bool) → (if b then type_of_local head n else None) ≡ Some t → type_of_local head n ≡ Some t
    by_test true e = e
    by_test false e = cc

pub in_scope : (head : Head) (ns : List ℕ) (n : ℕ) → is_there (scope_with head ns) n ≡ true → is_in n ns ≡ true
in_scope head ns n e = by_test (is_in n ns) e
  where
    by_test : (b : Bool) → is_some (if b then type_of_local head n else None) ≡ true → b ≡ true
    by_test true e = refl
    by_test false e = cc

pub scope_agrees : (p : Program) (head : Head) (ns : List ℕ) (s : State) → s.bound ≡ [] → AreTyped p head s.types s.locals → Agrees p (scope_with head ns) s
scope_agrees p head ns s none h = record {
  locals = λ n t v e f. h n t v (scope_local head ns n t e) f;
  bound = record { by = subst (λ (vs : List Value). have_types p [] (values_of vs) ≡ true) (sym none) refl };
}

same_length : (types : Tys) (xs : List Param) → length (map (instance_of types) (types_of xs)) ≡ length xs
same_length types [] = refl
same_length types (x ∷ xs) = ap suc (same_length types xs)

-- parameters are there on entry
pub parameters_there : (p : Program) (types : Tys) (xs : List Param) (vs : List Value) (locals : Locals) (n : ℕ) → have_types p (map (instance_of types) (types_of xs)) (values_of vs) ≡ true → is_in n (numbers_of xs) ≡ true → IsThere (given xs vs locals n)
parameters_there p types xs vs locals n h e = given_there p (map (instance_of types) (types_of xs)) xs vs locals n (same_length types xs) h e

pub numbers_join : (n : ℕ) (xs ys : List Param) → is_in n (numbers_of (xs ++ ys)) ≡ true → (is_in n (numbers_of xs) ≡ false) → is_in n (numbers_of ys) ≡ true
numbers_join n [] ys h e = h
numbers_join n (x ∷ xs) ys h e = by_test (x.local == n) h e (numbers_join n xs ys)
  where
    by_test : (b : Bool) → (b || is_in n (numbers_of (xs ++ ys))) ≡ true → (b || is_in n (numbers_of xs)) ≡ false → (is_in n (numbers_of (xs ++ ys)) ≡ true → is_in n (numbers_of xs) ≡ false → is_in n (numbers_of ys) ≡ true) → is_in n (numbers_of ys) ≡ true
    by_test true h e rest = cc
    by_test false h e rest = rest h e
