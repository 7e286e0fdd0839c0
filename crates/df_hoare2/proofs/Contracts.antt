-- The expressions of contracts are well typed, read what is there, and call what the declaration may.
use Rattle.std.proofs.Common.{◌≡◌, ℕ, suc, Bool, true, false, not, ◌&&◌, ◌||◌, ◌==◌, if◌then◌else◌, List, [], ◌∷◌, ◌++◌, map, filter, slice_get, Contains, Option, None, Some, refl, ap, subst, ◌∙◌, arith}
use Rattle.std.specs.Option.{option_map, option_map_or, unwrap_or}
use Rattle.std.specs.List.{AllByRecursion, list_all, flat_map}
use Rattle.std.proofs.lemmas.Bool.{and_parts, and_from}
use Rattle.df_lemmas.proofs.Lists.{all_parts}
use Rattle.df_lemmas.proofs.Numbers.{equal_self}
use Rattle.df_lemmas.proofs.Alls.{all_joined, all_front, all_back}
use Rattle.df_types.specs.Ty.{Ty, Boolean, Set, AnyObject, tys_of, list_of_tys, same_type}
use Rattle.df_types.specs.Expr.{Expr, Exprs, exprs_of}
use Rattle.df_types.specs.Stmt.{Demand, Typed}
use Rattle.df_types.specs.Program.{Variable, Param, Head, Program}
use Rattle.df_types.specs.Types.{is_framed}
use Rattle.df_types.specs.Sites.{is_in}
use Rattle.df_types.specs.ExprTyping.{Scope, is_at, is_expr, are_exprs}
use Rattle.df_types.specs.StmtTyping.{same_mark, are_demands, are_typed, are_frame, may_be_typed}
use Rattle.df_types.specs.Typing.{numbers_of, is_variable, is_param, entry_scope, exit_scope}
use Rattle.df_types.specs.Measures.{is_parameter_type, is_local, local_named, variable_at, parameter_measure, parameters_measure, frame_objects, frame_measure, function_measure, method_measure}
use Rattle.df_types.specs.Gathering.{gather, gather_all, of_demands, of_typed, of_optional, contract_expressions}
use Rattle.df_types.specs.Calls.{called}
use Rattle.df_types.proofs.SameTypes.{same_type_equal, same_type_self}
use Rattle.df_meaning2.specs.Execution.{conditions}
use Rattle.df_hoare2.proofs.Reading.{read_by, Fit, fit_from, is_there, typed_reads}
use Rattle.df_hoare2.proofs.Heads.{HeadIs}
use Rattle.df_hoare2.proofs.WholeTypes.{parameters_are}
use Rattle.df_hoare2.proofs.Meeting.{Sound, SoundTyped}

-- what an expression calls may be called
abbrev pub Calls : (ℕ → Bool) → Expr → Type 0
Calls may e = list_all may (gather called e) ≡ true

pub calls_each : (may : ℕ → Bool) (es : List Expr) → list_all may (flat_map (gather called) es) ≡ true → AllByRecursion (Calls may) es
calls_each may [] h = tt
calls_each may (e ∷ es) h = let parts = all_parts may (gather called e) (flat_map (gather called) es) h in (parts.0, calls_each may es parts.1)

pub all_contained : (test : ℕ → Bool) (xs : List ℕ) → ((x : ℕ) → Contains xs x → test x ≡ true) → list_all test xs ≡ true
all_contained test [] h = refl
all_contained test (x ∷ xs) h = and_from (test x) (list_all test xs) (h x (0, omega arith, refl)) (all_contained test xs (λ y c. h y (later y c)))
  where
    later : (y : ℕ) → Contains xs y → Contains (x ∷ xs) y
    later y (k, lt, e) = (suc k, omega arith, e)

wider : (a b : Bool) → b ≡ true → (a || b) ≡ true
wider true b e = refl
wider false b e = e

module _ (p : Program) (may : ℕ → Bool) where
  module _ (g : Scope) where
    abbrev pub Good : Expr → Type 0
    Good e = Sound p may (is_there g) g e

    abbrev pub GoodTyped : Typed → Type 0
    GoodTyped x = SoundTyped p may (is_there g) g x

    pub sound_typed : (x : Typed) → is_expr p g x.ty x.value ≡ true → Calls may x.value → GoodTyped x
    sound_typed x is calls = (is, record { calls = calls; locals = typed_reads p x.value g x.ty is })

    pub demands_sound : (ds : List Demand) → are_demands p g ds ≡ true → AllByRecursion (Calls may) (of_demands ds) → AllByRecursion Good (conditions ds)
    demands_sound [] is calls = tt
    demands_sound (d ∷ ds) is calls =
        let parts = and_parts (is_expr p g Boolean d.condition) (are_demands p g ds) is in
        ((parts.0, record { calls = calls.0; locals = typed_reads p d.condition g Boolean parts.0 }), demands_sound ds parts.1 calls.1)

    pub typed_sound : (xs : List Typed) → are_typed p g xs ≡ true → AllByRecursion (Calls may) (of_typed xs) → AllByRecursion GoodTyped xs
    typed_sound [] is calls = tt
    typed_sound (x ∷ xs) is calls =
        let parts = and_parts (is_expr p g x.ty x.value) (are_typed p g xs) is in
        (sound_typed x parts.0 calls.0, typed_sound xs parts.1 calls.1)

    -- ---- the objects of a frame

    abbrev types_in : List Typed → List Ty
    types_in xs = map (λ (x : Typed). x.ty) xs

    abbrev values_in : List Typed → Exprs
    values_in xs = exprs_of (map (λ (x : Typed). x.value) xs)

    back_again : (ts : List Ty) → list_of_tys (tys_of ts) ≡ ts
    back_again [] = refl
    back_again (t ∷ ts) = ap (λ us. t ∷ us) (back_again ts)

    objects_are : (xs : List Typed) → AllByRecursion GoodTyped xs → are_exprs p g (types_in xs) (values_in xs) ≡ true
    objects_are [] all = refl
    objects_are (x ∷ xs) all = and_from (is_expr p g x.ty x.value) (are_exprs p g (types_in xs) (values_in xs)) all.0.0 (objects_are xs all.1)

    objects_fit : (xs : List Typed) → AllByRecursion GoodTyped xs → Fit may (is_there g) (gather_all called (values_in xs)) (gather_all read_by (values_in xs))
    objects_fit [] all = record { calls = refl; locals = refl }
    objects_fit (x ∷ xs) all =
        fit_from may (is_there g) (gather called x.value) (gather_all called (values_in xs)) (gather read_by x.value) (gather_all read_by (values_in xs)) all.0.1 (objects_fit xs all.1)

    all_framed : (xs : List Typed) → list_all (λ (x : Typed). is_framed x.ty) xs ≡ true → list_all is_framed (types_in xs) ≡ true
    all_framed [] h = refl
    all_framed (x ∷ xs) h = let parts = and_parts (is_framed x.ty) (list_all (λ (x : Typed). is_framed x.ty) xs) h in and_from (is_framed x.ty) (list_all is_framed (types_in xs)) parts.0 (all_framed xs parts.1)

    pub frame_sound : (head : Head) → are_frame p g head.frame ≡ true → AllByRecursion (Calls may) (of_typed head.frame) → GoodTyped (record { ty = Set (AnyObject false); value = frame_objects head })
    frame_sound head is calls =
        let parts = and_parts (list_all (λ (x : Typed). is_framed x.ty) head.frame) (are_typed p g head.frame) is in
        let all = typed_sound head.frame parts.1 calls in
        let framed : list_all is_framed (list_of_tys (tys_of (types_in head.frame))) ≡ true = ap (list_all is_framed) (back_again (types_in head.frame)) ∙ all_framed head.frame parts.0 in
        let are : are_exprs p g (list_of_tys (tys_of (types_in head.frame))) (values_in head.frame) ≡ true = ap (λ ts. are_exprs p g ts (values_in head.frame)) (back_again (types_in head.frame)) ∙ objects_are head.frame all in
        (and_from (list_all is_framed (list_of_tys (tys_of (types_in head.frame)))) (are_exprs p g (list_of_tys (tys_of (types_in head.frame))) (values_in head.frame)) framed are, objects_fit head.frame all)

  -- ---- the parameters as a measure

  module _ (head : Head) where
    named_sound : (x : Param) (o : Option Variable) → is_param head x ≡ true → is_in x.local (numbers_of head.parameters) ≡ true → GoodTyped (entry_scope head) (record { ty = x.ty; value = local_named x.local o head.declared.pos })
    named_sound x o is in_it = by_variable o
      where
        at_type : (b : Bool) (v : Option Variable) → b ≡ true → option_map_or (is_variable x) v false ≡ true → is_at (if b then option_map (λ (y : Variable). y.ty) v else None) x.ty ≡ true
        at_type true None e h = cc
        at_type true (Some y) e h =
            let same : x.ty ≡ y.ty = same_type_equal x.ty y.ty (and_parts (same_type x.ty y.ty) (same_mark x.is_ghost y.is_ghost) h).0 in
            subst (λ t. same_type x.ty t ≡ true) same (same_type_self x.ty)
        at_type false v e h = cc

        typed : is_at ((entry_scope head).locals x.local) x.ty ≡ true
        typed = at_type (is_in x.local (numbers_of head.parameters)) (slice_get head.locals x.local) in_it is

        by_variable : (o : Option Variable) → GoodTyped (entry_scope head) (record { ty = x.ty; value = local_named x.local o head.declared.pos })
        by_variable None = sound_typed (entry_scope head) (record { ty = x.ty; value = local_named x.local None head.declared.pos }) typed refl
        by_variable (Some y) = sound_typed (entry_scope head) (record { ty = x.ty; value = local_named x.local (Some y) head.declared.pos }) typed refl

    measured_sound : (xs : List Param) → list_all (is_param head) xs ≡ true → ((x : Param) → is_in x.local (numbers_of xs) ≡ true → is_in x.local (numbers_of head.parameters) ≡ true)
        → AllByRecursion (GoodTyped (entry_scope head)) (map (parameter_measure head) (filter (λ (x : Param). not (is_parameter_type x.ty) && not (is_local head.receiver x.local)) xs))
    measured_sound [] are h = tt
    measured_sound (x ∷ xs) are h =
        by_test (not (is_parameter_type x.ty) && not (is_local head.receiver x.local)) (measured_sound xs (and_parts (is_param head x) (list_all (is_param head) xs) are).1 (λ y e. h y (wider (x.local == y.local) (is_in y.local (numbers_of xs)) e)))
      where
        by_test : (b : Bool) → AllByRecursion (GoodTyped (entry_scope head)) (map (parameter_measure head) (filter (λ (x : Param). not (is_parameter_type x.ty) && not (is_local head.receiver x.local)) xs)) → AllByRecursion (GoodTyped (entry_scope head)) (map (parameter_measure head) (if b then x ∷ filter (λ (x : Param). not (is_parameter_type x.ty) && not (is_local head.receiver x.local)) xs else filter (λ (x : Param). not (is_parameter_type x.ty) && not (is_local head.receiver x.local)) xs))
        by_test true others = (named_sound x (variable_at head x.local) (and_parts (is_param head x) (list_all (is_param head) xs) are).0 (h x first), others)
          where
            first : (is_in x.local (numbers_of (x ∷ xs))) ≡ true
            first = ap (λ b. b || is_in x.local (numbers_of xs)) (equal_self x.local)
        by_test false others = others

-- ---- all of a head

-- the expressions of a contract call only what may be called
pub record Contract (p : Program) (may : ℕ → Bool) (head : Head) : Type 0 where
  pub preconditions : AllByRecursion (Good p may (entry_scope head)) (conditions head.preconditions)
  pub frame : GoodTyped p may (entry_scope head) (record { ty = Set (AnyObject false); value = frame_objects head })
  pub function_measure : AllByRecursion (GoodTyped p may (entry_scope head)) (function_measure head)
  pub method_measure : AllByRecursion (GoodTyped p may (entry_scope head)) (method_measure head)
  pub postconditions : AllByRecursion (Good p may (exit_scope head)) (conditions head.postconditions)

pub contract : (p : Program) (may : ℕ → Bool) (head : Head) → HeadIs p head → AllByRecursion (Calls may) (contract_expressions head) → Contract p may head
contract p may head is calls =
    let g = entry_scope head in
    let others : List Expr = of_typed head.frame ++ (of_optional head.decreases ++ of_demands head.postconditions) in
    let more : List Expr = of_optional head.decreases ++ of_demands head.postconditions in
    let one = all_front (Calls may) (of_demands head.preconditions) others calls in
    let rest = all_back (Calls may) (of_demands head.preconditions) others calls in
    let two = all_front (Calls may) (of_typed head.frame) more rest in
    let last = all_back (Calls may) (of_typed head.frame) more rest in
    let three = all_front (Calls may) (of_optional head.decreases) (of_demands head.postconditions) last in
    let four = all_back (Calls may) (of_optional head.decreases) (of_demands head.postconditions) last in
    let framed = frame_sound p may g head is.frame two in
    let params = measured_sound p may head head.parameters (parameters_are head p is) (λ x e. e) in
    record {
      preconditions = demands_sound p may g head.preconditions is.preconditions one;
      frame = framed;
      function_measure = by_clause head.decreases is.decreases three (frame_measure head head.frame ++ parameters_measure head) (all_joined (GoodTyped p may g) (frame_measure head head.frame) (parameters_measure head) (in_front head.frame framed) params);
      method_measure = by_clause head.decreases is.decreases three (parameters_measure head) params;
      postconditions = demands_sound p may (exit_scope head) head.postconditions is.postconditions four;
    }
  where
    by_clause : (o : Option (List Typed)) → may_be_typed p (entry_scope head) o ≡ true → AllByRecursion (Calls may) (of_optional o) → (ys : List Typed) → AllByRecursion (GoodTyped p may (entry_scope head)) ys → AllByRecursion (GoodTyped p may (entry_scope head)) (unwrap_or o ys)
    by_clause None is calls ys h = h
    by_clause (Some xs) is calls ys h = typed_sound p may (entry_scope head) xs is calls

    in_front : (xs : List Typed) → GoodTyped p may (entry_scope head) (record { ty = Set (AnyObject false); value = frame_objects head }) → AllByRecursion (GoodTyped p may (entry_scope head)) (frame_measure head xs)
    in_front [] h = tt
    in_front (x ∷ xs) h = (h, tt)
