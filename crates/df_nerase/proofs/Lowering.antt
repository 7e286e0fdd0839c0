-- In what compiles arguments and results have values without ghosts.
use Rattle.std.proofs.Common.{◌≡◌, ℕ, zero, suc, Bool, true, false, not, if◌then◌else◌, List, [], ◌∷◌, Option, None, Some, slice_get, refl, ap, subst}
use Rattle.std.specs.Option.{option_map, option_map_or, option_and_then}
use Rattle.std.specs.List.{list_all}
use Rattle.df_lang.specs.declared.ty.Ty.{Ty}
use Rattle.df_lang.specs.declared.ty.Ty.TheVariants as types
use Rattle.df_lang.specs.Newtype.{Newtype, is_unbounded}
use Rattle.df_lang.specs.Program.{Param, Method, Decl, NewtypeDecl, MethodDecl, Program, as_method, newtype_at, method_at, types_of}
use Rattle.df_lang.specs.Marks.{are_unmarked_params, are_unmarked, has_no_ghost}
use Rattle.df_lang.specs.Typing.{is_method, is_decl, is_well_typed}
use Rattle.df_lang.specs.Native.{breaches_of_place, breaches_of_params, breaches_in_all, IsNative}
use Rattle.df_meaning.specs.Value.{Value}
use Rattle.df_meaning.specs.Value as values
use Rattle.df_meaning.specs.Types.{holds, has_type, have_types}
use Rattle.df_meaning.proofs.Cases.{both, three, joined}
use Rattle.df_nplain.specs.Kind.{Between, Unbounded}
use Rattle.df_nplain.specs.Kind as kinds
use Rattle.df_nplain.specs.Values.{has_kind, have_kinds}
use Rattle.df_nerase.specs.Erasing.{kind_of, kinds_of, lower}
use Rattle.df_nerase.specs.Running.{ArgumentsAreLowered, ResultsAreLowered}
use Rattle.df_nerase.proofs.Bounded.{nothing_in, nothing_in_three, bounded_type}

-- a value of a type is of the kind
kind_had : (p : Program) (ty : Ty) (value : Value) → has_type p ty value ≡ true → has_kind (kind_of p ty) value ≡ true
kind_had p (types.Newtype id) (values.Number n) h = by_newtype (newtype_at p id) h
  where
    by_newtype : (o : Option Newtype) → option_map_or (λ (newtype : Newtype). holds newtype n) o false ≡ true
        → has_kind (kinds.Number (option_map_or (λ (newtype : Newtype). Between newtype.low newtype.high) o Unbounded)) (values.Number n) ≡ true
    by_newtype None e = cc
    by_newtype (Some newtype) e = e
kind_had p (types.Newtype id) (values.Truth b) h = cc
kind_had p (types.Newtype id) (values.Character code) h = cc
kind_had p (types.Newtype id) (values.Text characters) h = cc
kind_had p types.Int (values.Number n) h = refl
kind_had p types.Int (values.Truth b) h = cc
kind_had p types.Int (values.Character code) h = cc
kind_had p types.Int (values.Text characters) h = cc
kind_had p types.Nat (values.Number n) h = refl
kind_had p types.Nat (values.Truth b) h = cc
kind_had p types.Nat (values.Character code) h = cc
kind_had p types.Nat (values.Text characters) h = cc
kind_had p types.Bool (values.Truth b) h = refl
kind_had p types.Bool (values.Number n) h = cc
kind_had p types.Bool (values.Character code) h = cc
kind_had p types.Bool (values.Text characters) h = cc
kind_had p types.Char (values.Character code) h = h
kind_had p types.Char (values.Number n) h = cc
kind_had p types.Char (values.Truth b) h = cc
kind_had p types.Char (values.Text characters) h = cc

pub kinds_had : (p : Program) (params : List Param) (vs : List Value) → have_types p (types_of params) vs ≡ true → have_kinds (kinds_of p params) vs ≡ true
kinds_had p [] [] have = refl
kinds_had p [] (v ∷ vs) have = cc
kinds_had p (param ∷ params) [] have = cc
kinds_had p (param ∷ params) (v ∷ vs) have =
    let have = both (has_type p param.ty v) (have_types p (types_of params) vs) have in joined _ _ (kind_had p param.ty v have.0) (kinds_had p params vs have.1)

unmarked_is : (is_ghost : Bool) → not is_ghost ≡ true → is_ghost ≡ false
unmarked_is true h = cc
unmarked_is false h = refl

one_lowered : (is_ghost is_without_bounds : Bool) (v : Value) (vs : List Value) (others : Option (List Value)) → is_ghost ≡ false → is_without_bounds ≡ false → others ≡ Some vs
    → (if is_ghost then others else if is_without_bounds then None else option_map (λ (kept : List Value). v ∷ kept) others) ≡ Some (v ∷ vs)
one_lowered true b v vs others g u e = cc
one_lowered false true v vs others g u e = cc
one_lowered false false v vs others g u e = ap (option_map (λ (kept : List Value). v ∷ kept)) e

-- where nothing is a ghost, all values stay
pub all_lowered : (p : Program) (params : List Param) (vs : List Value) → are_unmarked_params params ≡ true → breaches_of_params params ≡ [] → have_types p (types_of params) vs ≡ true → lower params vs ≡ Some vs
all_lowered p [] [] unmarked none have = refl
all_lowered p [] (v ∷ vs) unmarked none have = cc
all_lowered p (param ∷ params) [] unmarked none have = cc
all_lowered p (param ∷ params) (v ∷ vs) unmarked none have =
    let unmarked = both (not param.is_ghost) (are_unmarked_params params) unmarked in
    let none = nothing_in (breaches_of_place param.is_ghost param.ty param.declared.pos) (breaches_of_params params) none in
    let have = both (has_type p param.ty v) (have_types p (types_of params) vs) have in
    one_lowered param.is_ghost (is_unbounded param.ty) v vs (lower params vs) (unmarked_is param.is_ghost unmarked.0) (bounded_type param.is_ghost param.ty param.declared.pos unmarked.0 none.0) (all_lowered p params vs unmarked.1 none.1 have.1)

found_unmarked : (p : Program) (decls : List Decl) (number : ℕ) (method : Method) → list_all (is_decl p) decls ≡ true → option_and_then as_method (slice_get decls number) ≡ Some method → has_no_ghost method ≡ true
found_unmarked p [] number method are there = cc
found_unmarked p (decl ∷ decls) zero method are there = by_decl decl (both (is_decl p decl) (list_all (is_decl p) decls) are).0 there
  where
    by_decl : (d : Decl) → is_decl p d ≡ true → as_method d ≡ Some method → has_no_ghost method ≡ true
    by_decl (NewtypeDecl newtype) is e = cc
    by_decl (MethodDecl m) is e = let same : m ≡ method = cc in subst (λ (x : Method). has_no_ghost x ≡ true) same (both (is_method p m) (has_no_ghost m) is).1
found_unmarked p (decl ∷ decls) (suc number) method are there = found_unmarked p decls number method (both (is_decl p decl) (list_all (is_decl p) decls) are).1 there

-- the parameters and the results of a method of a well-typed program that compiles
places_unmarked : (p : Program) (number : ℕ) (method : Method) → is_well_typed p ≡ true → method_at p number ≡ Some method → (are_unmarked_params method.parameters ≡ true) × (are_unmarked_params method.results ≡ true)
places_unmarked p number method well there =
    let unmarked = three (are_unmarked_params method.parameters) (are_unmarked_params method.results) (are_unmarked method.body) (found_unmarked p p.decls number method well there) in (unmarked.0, unmarked.1)

places_native : (p : Program) (number : ℕ) (method : Method) → IsNative p → method_at p number ≡ Some method → (breaches_of_params method.parameters ≡ []) × (breaches_of_params method.results ≡ [])
places_native p number method native there =
    let none = nothing_in_three (breaches_of_params method.parameters) (breaches_of_params method.results) (breaches_in_all method.body) (native number method there) in (none.0, none.1)

pub arguments_stay : (p : Program) (number : ℕ) (method : Method) (vs : List Value) → is_well_typed p ≡ true → IsNative p → method_at p number ≡ Some method → have_types p (types_of method.parameters) vs ≡ true → lower method.parameters vs ≡ Some vs
arguments_stay p number method vs well native there have =
    all_lowered p method.parameters vs (places_unmarked p number method well there).0 (places_native p number method native there).0 have

pub results_stay : (p : Program) (number : ℕ) (method : Method) (vs : List Value) → is_well_typed p ≡ true → IsNative p → method_at p number ≡ Some method → have_types p (types_of method.results) vs ≡ true → lower method.results vs ≡ Some vs
results_stay p number method vs well native there have =
    all_lowered p method.results vs (places_unmarked p number method well there).1 (places_native p number method native there).1 have

pub arguments_are_lowered : ArgumentsAreLowered
arguments_are_lowered program well native number method there arguments have = record {
  kept = arguments;
  lowered = arguments_stay program number method arguments well native there have;
  are_of_kinds = kinds_had program method.parameters arguments have;
}

pub results_are_lowered : ResultsAreLowered
results_are_lowered program well native number method there results have = record {
  kept = results;
  lowered = results_stay program number method results well native there have;
  are_of_kinds = kinds_had program method.results results have;
}
