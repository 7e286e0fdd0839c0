-- What is well typed over locals is so over those of the whole method.
use Rattle.df_nflow.proofs.Words.{◌≡◌, ℕ, Bool, true, false, ◌&&◌, List, [], ◌∷◌, slice_get, Option, None, Some, refl, ap, ◌∙◌, option_map_or, and_parts, and_from, Ty, Expr, Number, Truth, Character, Local, Negate, Not, Sum, Product, Junction, Implies, Iff, Chain, As, Convert, Addends, no_addend, addend, Factors, no_factor, factor, Members, no_member, member, Links, no_link, link, Clause, Measure, Program, same_type, is_type, is_arithmetic, converts, casts, compares, is_expr, are_addends, are_factors, are_members, are_links, are_exprs, are_clauses, are_measures, Within, all_weaker}
use Rattle.df_lang.specs.declared.ty.Ty.TheVariants as types

-- the second part of two truths is replaced
last_one : (a b c : Bool) → (b ≡ true → c ≡ true) → (a && b) ≡ true → (a && c) ≡ true
last_one a b c f e = let p = and_parts a b e in and_from a c p.0 (f p.1)

two_more : (a b c d : Bool) → (a ≡ true → c ≡ true) → (b ≡ true → d ≡ true) → (a && b) ≡ true → (c && d) ≡ true
two_more a b c d f g e = let p = and_parts a b e in and_from c d (f p.0) (g p.1)

by_lookup : (test : Ty → Bool) (o : Option Ty) → option_map_or test o false ≡ true → (ty : Ty) × (o ≡ Some ty) × (test ty ≡ true)
by_lookup test None e = absurd cc
by_lookup test (Some ty) e = (ty, refl, e)

pub same_lookup : (test : Ty → Bool) (locals all : List Ty) (local : ℕ) → Within locals all → option_map_or test (slice_get locals local) false ≡ true → option_map_or test (slice_get all local) false ≡ true
same_lookup test locals all local within e =
    let found = by_lookup test (slice_get locals local) e in
    ap (λ (o : Option Ty). option_map_or test o false) (within.at local found.0 found.1) ∙ found.2

module _ (program : Program) (locals all : List Ty) (within : Within locals all) where
  mutual
    pub expr_lifts : (ty : Ty) (e : Expr) → is_expr program locals ty e ≡ true → is_expr program all ty e ≡ true
    expr_lifts ty (Number own value at) is = is
    expr_lifts ty (Truth value at) is = is
    expr_lifts ty (Character code at) is = is
    expr_lifts ty (Local local name at) is = same_lookup (same_type ty) locals all local within is
    expr_lifts ty (Negate own at operand) is = last_one (same_type own ty && is_arithmetic program ty) (is_expr program locals ty operand) (is_expr program all ty operand) (expr_lifts ty operand) is
    expr_lifts ty (Not at operand) is = last_one (same_type ty types.Bool) (is_expr program locals types.Bool operand) (is_expr program all types.Bool operand) (expr_lifts types.Bool operand) is
    expr_lifts ty (Sum own first rest) is =
        two_more (same_type own ty && is_arithmetic program ty && is_expr program locals ty first) (are_addends program locals ty rest) (same_type own ty && is_arithmetic program ty && is_expr program all ty first) (are_addends program all ty rest)
        (last_one (same_type own ty && is_arithmetic program ty) (is_expr program locals ty first) (is_expr program all ty first) (expr_lifts ty first)) (addends_lift ty rest) is
    expr_lifts ty (Product own first rest) is =
        two_more (same_type own ty && is_arithmetic program ty && is_expr program locals ty first) (are_factors program locals ty rest) (same_type own ty && is_arithmetic program ty && is_expr program all ty first) (are_factors program all ty rest)
        (last_one (same_type own ty && is_arithmetic program ty) (is_expr program locals ty first) (is_expr program all ty first) (expr_lifts ty first)) (factors_lift ty rest) is
    expr_lifts ty (Junction junction first rest) is =
        two_more (same_type ty types.Bool && is_expr program locals types.Bool first) (are_members program locals rest) (same_type ty types.Bool && is_expr program all types.Bool first) (are_members program all rest)
        (last_one (same_type ty types.Bool) (is_expr program locals types.Bool first) (is_expr program all types.Bool first) (expr_lifts types.Bool first)) (members_lift rest) is
    expr_lifts ty (Implies arrow first rest) is =
        two_more (same_type ty types.Bool && is_expr program locals types.Bool first) (are_members program locals rest) (same_type ty types.Bool && is_expr program all types.Bool first) (are_members program all rest)
        (last_one (same_type ty types.Bool) (is_expr program locals types.Bool first) (is_expr program all types.Bool first) (expr_lifts types.Bool first)) (members_lift rest) is
    expr_lifts ty (Iff first rest) is =
        two_more (same_type ty types.Bool && is_expr program locals types.Bool first) (are_members program locals rest) (same_type ty types.Bool && is_expr program all types.Bool first) (are_members program all rest)
        (last_one (same_type ty types.Bool) (is_expr program locals types.Bool first) (is_expr program all types.Bool first) (expr_lifts types.Bool first)) (members_lift rest) is
    expr_lifts ty (Chain own first rest) is =
        two_more (same_type ty types.Bool && is_expr program locals own first) (are_links program locals own rest) (same_type ty types.Bool && is_expr program all own first) (are_links program all own rest)
        (last_one (same_type ty types.Bool) (is_expr program locals own first) (is_expr program all own first) (expr_lifts own first)) (links_lift own rest) is
    expr_lifts ty (As source target at operand) is =
        last_one (same_type target ty && casts program source target) (is_expr program locals source operand) (is_expr program all source operand) (expr_lifts source operand) is
    expr_lifts ty (Convert source target at operand) is =
        last_one (same_type target ty && converts source target) (is_expr program locals source operand) (is_expr program all source operand) (expr_lifts source operand) is

    addends_lift : (ty : Ty) (rest : Addends) → are_addends program locals ty rest ≡ true → are_addends program all ty rest ≡ true
    addends_lift ty no_addend is = refl
    addends_lift ty (addend operator at operand rest) is =
        two_more (is_expr program locals ty operand) (are_addends program locals ty rest) (is_expr program all ty operand) (are_addends program all ty rest) (expr_lifts ty operand) (addends_lift ty rest) is

    factors_lift : (ty : Ty) (rest : Factors) → are_factors program locals ty rest ≡ true → are_factors program all ty rest ≡ true
    factors_lift ty no_factor is = refl
    factors_lift ty (factor operator at operand rest) is =
        two_more (is_expr program locals ty operand) (are_factors program locals ty rest) (is_expr program all ty operand) (are_factors program all ty rest) (expr_lifts ty operand) (factors_lift ty rest) is

    members_lift : (rest : Members) → are_members program locals rest ≡ true → are_members program all rest ≡ true
    members_lift no_member is = refl
    members_lift (member at operand rest) is =
        two_more (is_expr program locals types.Bool operand) (are_members program locals rest) (is_expr program all types.Bool operand) (are_members program all rest) (expr_lifts types.Bool operand) (members_lift rest) is

    links_lift : (ty : Ty) (rest : Links) → are_links program locals ty rest ≡ true → are_links program all ty rest ≡ true
    links_lift ty no_link is = refl
    links_lift ty (link comparison at operand rest) is =
        two_more (compares program ty comparison && is_expr program locals ty operand) (are_links program locals ty rest) (compares program ty comparison && is_expr program all ty operand) (are_links program all ty rest)
        (last_one (compares program ty comparison) (is_expr program locals ty operand) (is_expr program all ty operand) (expr_lifts ty operand)) (links_lift ty rest) is

  pub exprs_lift : (tys : List Ty) (exprs : List Expr) → are_exprs program locals tys exprs ≡ true → are_exprs program all tys exprs ≡ true
  exprs_lift [] [] is = refl
  exprs_lift [] (e ∷ others) is = absurd cc
  exprs_lift (ty ∷ more) [] is = absurd cc
  exprs_lift (ty ∷ more) (e ∷ others) is =
      two_more (is_expr program locals ty e) (are_exprs program locals more others) (is_expr program all ty e) (are_exprs program all more others) (expr_lifts ty e) (exprs_lift more others) is

  pub clauses_lift : (clauses : List Clause) → are_clauses program locals clauses ≡ true → are_clauses program all clauses ≡ true
  clauses_lift clauses is = all_weaker (λ (c : Clause). is_expr program locals types.Bool c.condition) (λ (c : Clause). is_expr program all types.Bool c.condition) clauses (λ c e. expr_lifts types.Bool c.condition e) is

  pub measures_lift : (decreases : Option (List Measure)) → are_measures program locals decreases ≡ true → are_measures program all decreases ≡ true
  measures_lift None is = refl
  measures_lift (Some measures) is =
      all_weaker (λ (m : Measure). is_type program m.ty && is_expr program locals m.ty m.value) (λ (m : Measure). is_type program m.ty && is_expr program all m.ty m.value) measures
      (λ m e. last_one (is_type program m.ty) (is_expr program locals m.ty m.value) (is_expr program all m.ty m.value) (expr_lifts m.ty m.value) e) is
