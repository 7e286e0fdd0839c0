-- Measures of well-typed loops and methods are well typed.
use Rattle.df_npass.proofs.Words.{◌≡◌, ℕ, suc, true, false, ◌&&◌, List, [], ◌∷◌, ◌++◌, length, slice_get, unwrap_or, Option, None, Some, refl, sym, ap, ◌∙◌, subst, append_assoc, list_all, option_map_or, Pos, Ty, Comparison, Expr, Junction, Chain, no_link, link, Measure, Param, Method, Program, types_of, distance, comparison_measure, guard_measure, measure_of_number, loop_measure, parameters_from, method_measure, same_type, is_type, is_integer, compares, is_expr, are_members, are_links, are_measures, both, three, joined, same_self}
use Rattle.df_lang.specs.declared.ty.Ty.TheVariants as types
use Rattle.df_lang.specs.declared.expr.Junction.TheVariants as junctions
use Rattle.df_lang.specs.declared.expr.Comparison.TheVariants as comparisons

abbrev pub AreTyped : Program → List Ty → List Measure → Type 0
AreTyped p locals measures = list_all (λ (measure : Measure). is_expr p locals measure.ty measure.value) measures ≡ true

module _ (p : Program) (locals : List Ty) where
  clause_typed : (measures : List Measure) → are_measures p locals (Some measures) ≡ true → AreTyped p locals measures
  clause_typed [] are = refl
  clause_typed (measure ∷ others) are =
      let are = both (is_type p measure.ty && is_expr p locals measure.ty measure.value) (are_measures p locals (Some others)) are in
      joined _ _ (both (is_type p measure.ty) (is_expr p locals measure.ty measure.value) are.0).1 (clause_typed others are.1)

-- ---- of methods

pub get_at : (front : List Ty) (ty : Ty) (rest : List Ty) → slice_get (front ++ ty ∷ rest) (length front) ≡ Some ty
get_at [] ty rest = refl
get_at (t ∷ ts) ty rest = get_at ts ty rest

pub one_longer : (front : List Ty) (ty : Ty) → length (front ++ ty ∷ []) ≡ suc (length front)
one_longer [] ty = refl
one_longer (t ∷ ts) ty = ap suc (one_longer ts ty)

parameters_typed : (p : Program) (locals front : List Ty) (params : List Param) → front ++ types_of params ≡ locals → AreTyped p locals (parameters_from (length front) params)
parameters_typed p locals front [] e = refl
parameters_typed p locals front (param ∷ others) e =
    joined _ _ (subst (λ (x : Option Ty). option_map_or (same_type param.ty) x false ≡ true) (sym (subst (λ (tys : List Ty). slice_get tys (length front) ≡ Some param.ty) e (get_at front param.ty (types_of others)))) (same_self param.ty))
    (subst (λ (k : ℕ). AreTyped p locals (parameters_from k others)) (one_longer front param.ty)
    (parameters_typed p locals (front ++ param.ty ∷ []) others (append_assoc front (param.ty ∷ []) (types_of others) ∙ e)))

pub method_measure_typed : (p : Program) (method : Method) → are_measures p (types_of method.parameters) method.decreases ≡ true → AreTyped p (types_of method.parameters) (method_measure method)
method_measure_typed p method are = by_clause method.decreases are
  where
    by_clause : (o : Option (List Measure)) → are_measures p (types_of method.parameters) o ≡ true → AreTyped p (types_of method.parameters) (unwrap_or o (parameters_from 0 method.parameters))
    by_clause None are = parameters_typed p (types_of method.parameters) [] method.parameters refl
    by_clause (Some measures) are = clause_typed p (types_of method.parameters) measures are

-- ---- of loops

module _ (p : Program) (locals : List Ty) where
  abbrev Typed : Option Expr → Type 0
  Typed None = Unit {0}
  Typed (Some e) = is_expr p locals types.Int e ≡ true

  distance_typed : (ty : Ty) (at : Pos) (low high : Expr) → is_integer p ty ≡ true → is_expr p locals ty low ≡ true → is_expr p locals ty high ≡ true → is_expr p locals types.Int (distance ty at low high) ≡ true
  distance_typed types.Int at low high int h k = joined _ _ k (joined _ _ h refl)
  distance_typed types.Nat at low high int h k = joined _ _ k (joined _ _ h refl)
  distance_typed (types.Newtype id) at low high int h k = joined _ _ (cast high k) (joined _ _ (cast low h) refl)
    where
      cast : (e : Expr) → is_expr p locals (types.Newtype id) e ≡ true → ((is_integer p (types.Newtype id) && true) && is_expr p locals (types.Newtype id) e) ≡ true
      cast e is = joined _ _ (joined _ true int refl) is
  distance_typed ty at low high int h k = cc

  comparison_typed : (ty : Ty) (at : Pos) (a : Expr) (comparison : Comparison) (b : Expr) → compares p ty comparison ≡ true → is_expr p locals ty a ≡ true → is_expr p locals ty b ≡ true → Typed (comparison_measure ty at a comparison b)
  comparison_typed types.Bool at a comparison b c h k = tt
  comparison_typed types.Char at a comparison b c h k = tt
  comparison_typed ty at a comparisons.Less b c h k = distance_typed ty at a b c h k
  comparison_typed ty at a comparisons.AtMost b c h k = distance_typed ty at a b c h k
  comparison_typed ty at a comparisons.Greater b c h k = distance_typed ty at b a c k h
  comparison_typed ty at a comparisons.AtLeast b c h k = distance_typed ty at b a c k h
  comparison_typed ty at a comparison b c h k = tt

  guard_typed : (guard : Expr) → is_expr p locals types.Bool guard ≡ true → Typed (guard_measure guard)
  guard_typed (Chain ty first (link comparison at operand no_link)) is =
      let is = both (is_expr p locals ty first) (are_links p locals ty (link comparison at operand no_link)) is in
      let link_is = three (compares p ty comparison) (is_expr p locals ty operand) true is.1 in
      comparison_typed ty at first comparison operand link_is.0 is.0 link_is.1
  guard_typed (Junction junctions.And first rest) is = guard_typed first (both (is_expr p locals types.Bool first) (are_members p locals rest) is).0
  guard_typed guard is = tt

  number_typed : (o : Option Expr) → Typed o → AreTyped p locals (measure_of_number o)
  number_typed None h = refl
  number_typed (Some e) h = joined _ true h refl

  pub loop_measure_typed : (guard : Expr) (decreases : Option (List Measure)) → is_expr p locals types.Bool guard ≡ true → are_measures p locals decreases ≡ true → AreTyped p locals (loop_measure guard decreases)
  loop_measure_typed guard None is are = number_typed (guard_measure guard) (guard_typed guard is)
  loop_measure_typed guard (Some measures) is are = clause_typed p locals measures are
