-- The result of a function in what it ensures.
use Rattle.std.proofs.Common.{◌≡◌, ℕ, zero, suc, Bool, true, false, ◌||◌, ◌==◌, if◌then◌else◌, List, [], ◌∷◌, ◌++◌, map, length, slice_get, Option, None, Some, refl, sym, ap, subst, eqb-true, arith}
use Rattle.std.specs.Option.{option_map, option_map_or}
use Rattle.std.specs.List.{AllByRecursion, list_all}
use Rattle.std.proofs.lemmas.Bool.{and_parts}
use Rattle.df_lemmas.proofs.Numbers.{equal_self}
use Rattle.df_types.specs.Ty.{Boolean, same_type, instance_of}
use Rattle.df_types.specs.Regular.{own_types}
use Rattle.df_types.specs.Expr.{Expr}
use Rattle.df_types.specs.Program.{Variable, TypeParameter, Param, Head, Function, Program, function_at, result_type}
use Rattle.df_types.specs.Types.{is_type}
use Rattle.df_types.specs.Sites.{is_in}
use Rattle.df_types.specs.ExprTyping.{is_at}
use Rattle.df_types.specs.StmtTyping.{scope_with, same_mark}
use Rattle.df_types.specs.Typing.{numbers_of, is_variable, is_param, are_variables, exit_scope}
use Rattle.df_types.proofs.SameTypes.{same_type_equal, same_type_self}
use Rattle.df_meaning2.specs.Modular.{itself, resulting, result_local}
use Rattle.df_hoare2.proofs.Reading.{is_there, at_there}
use Rattle.df_hoare2.proofs.Heads.{HeadIs, FunctionIs}
use Rattle.df_hoare2.proofs.WholeTypes.{results_are}
use Rattle.df_hoare2.proofs.Contracts.{Good}
use Rattle.df_hoare2.proofs.Resulting.{own_instance, resulting_well}

pub param_at : (head : Head) (ns : List ℕ) (x : Param) → is_param head x ≡ true → is_in x.local ns ≡ true → is_at ((scope_with head ns).locals x.local) x.ty ≡ true
param_at head ns x is e = by_test (is_in x.local ns) (slice_get head.locals x.local) e is
  where
    by_test : (b : Bool) (o : Option Variable) → b ≡ true → option_map_or (is_variable x) o false ≡ true → is_at (if b then option_map (λ (y : Variable). y.ty) o else None) x.ty ≡ true
    by_test true None e h = cc
    by_test true (Some y) e h =
        let same : x.ty ≡ y.ty = same_type_equal x.ty y.ty (and_parts (same_type x.ty y.ty) (same_mark x.is_ghost y.is_ghost) h).0 in
        subst (λ t. same_type x.ty t ≡ true) same (same_type_self x.ty)
    by_test false o e h = cc

pub param_is_type : (p : Program) (marks : List TypeParameter) (head : Head) (x : Param) → are_variables p marks head.locals ≡ true → is_param head x ≡ true → is_type p marks x.ty ≡ true
param_is_type p marks head x all is = by_local (slice_get head.locals x.local) refl is
  where
    found : (ys : List Variable) (n : ℕ) (y : Variable) → are_variables p marks ys ≡ true → slice_get ys n ≡ Some y → is_type p marks y.ty ≡ true
    found [] n y h e = cc
    found (z ∷ ys) zero y h e =
        let same : z ≡ y = let k : Some z ≡ Some y = e in cc in
        subst (λ (w : Variable). is_type p marks w.ty ≡ true) same (and_parts (is_type p marks z.ty) (are_variables p marks ys) h).0
    found (z ∷ ys) (suc n) y h e = found ys n y (and_parts (is_type p marks z.ty) (are_variables p marks ys) h).1 e

    by_local : (o : Option Variable) → slice_get head.locals x.local ≡ o → option_map_or (is_variable x) o false ≡ true → is_type p marks x.ty ≡ true
    by_local None e h = cc
    by_local (Some y) e h =
        let same : x.ty ≡ y.ty = same_type_equal x.ty y.ty (and_parts (same_type x.ty y.ty) (same_mark x.is_ghost y.is_ghost) h).0 in
        subst (λ t. is_type p marks t ≡ true) (sym same) (found head.locals x.local y all e)

in_joined : (n : ℕ) (xs ys : List Param) → is_in n (numbers_of ys) ≡ true → is_in n (numbers_of (xs ++ ys)) ≡ true
in_joined n [] ys e = e
in_joined n (x ∷ xs) ys e = wider (x.local == n) (is_in n (numbers_of (xs ++ ys))) (in_joined n xs ys e)
  where
    wider : (a b : Bool) → b ≡ true → (a || b) ≡ true
    wider true b e = refl
    wider false b e = e

-- the one result is there, of its type
pub record ResultIs (p : Program) (head : Head) (xs : List Param) : Type 0 where
  pub typed : is_at ((exit_scope head).locals (result_local xs)) (result_type xs) ≡ true
  pub own : instance_of (own_types 0 (length head.type_parameters)) (result_type xs) ≡ result_type xs

pub result_is : (p : Program) (head : Head) → HeadIs p head → (length head.results == 1) ≡ true → ResultIs p head head.results
result_is p head is one = by_results head.results one (results_are head p is) (λ x e. in_joined x.local head.parameters head.results e)
  where
    by_results : (xs : List Param) → (length xs == 1) ≡ true → list_all (is_param head) xs ≡ true → ((x : Param) → is_in x.local (numbers_of xs) ≡ true → is_in x.local (numbers_of (head.parameters ++ head.results)) ≡ true) → ResultIs p head xs
    by_results [] one are inside = cc
    by_results (x ∷ y ∷ xs) one are inside = absurd (let e : suc (suc (length xs)) ≡ 1 = eqb-true (suc (suc (length xs))) 1 one in omega (arith, e))
    by_results (x ∷ []) one are inside =
        let param = (and_parts (is_param head x) true are).0 in
        record {
          typed = param_at head (numbers_of (head.parameters ++ head.results)) x param (inside x (ap (λ b. b || false) (equal_self x.local)));
          own = own_instance p head.type_parameters x.ty (param_is_type p head.type_parameters head x is.variables param);
        }

module _ (p : Program) (may : ℕ → Bool) (number : ℕ) (f : Function) (there : function_at p number ≡ Some f) (is : FunctionIs p f) where
  abbrev result_of : ResultIs p f.head f.head.results
  result_of = result_is p f.head is.head is.one_result

  -- what it ensures, with its result in place of its call
  pub resulting_sound : (es : List Expr) → AllByRecursion (Good p may (exit_scope f.head)) es → AllByRecursion (Good p may (exit_scope f.head)) (map (resulting (itself number f.head)) es)
  resulting_sound [] all = tt
  resulting_sound (e ∷ es) all = (
    resulting_well p may (is_there (exit_scope f.head)) (itself number f.head) f there (result_type f.head.results) (at_there ((exit_scope f.head).locals (result_local f.head.results)) (result_type f.head.results) result_of.typed) result_of.own
        e (exit_scope f.head) Boolean result_of.typed all.0.0 all.0.1,
    resulting_sound es all.1,
  )
