-- What is well typed reads locals of the list alone.
use Rattle.std.proofs.Common.{◌≡◌, ◌≤◌, ◌<◌, ◌+◌, ℕ, suc, Bool, true, false, ◌&&◌, List, [], ◌∷◌, length, slice_get, Option, Some, None, unwrap_or, refl, sym, subst, arith}
use Rattle.std.proofs.lemmas.Option.{slice_get_within}
use Rattle.std.specs.Option.{option_map_or}
use Rattle.df_lang.specs.declared.ty.Ty.{Ty}
use Rattle.df_lang.specs.declared.ty.Ty.TheVariants as types
use Rattle.df_lang.specs.Expr.{Expr, Number, Truth, Character, Local, Negate, Not, Sum, Product, Junction, Implies, Iff, Chain, As, Convert, Addends, no_addend, addend, Factors, no_factor, factor, Members, no_member, member, Links, no_link, link}
use Rattle.df_lang.specs.Stmt.{Clause, Measure}
use Rattle.df_lang.specs.Program.{Param, Method, Program}
use Rattle.df_lang.specs.Newtype.{same_type}
use Rattle.df_lang.specs.Typing.{is_type, is_arithmetic, casts, compares, converts, is_expr, are_addends, are_factors, are_members, are_links, are_clauses, are_measures}
use Rattle.df_lang.specs.Measures.{parameters_from, method_measure}
use Rattle.df_lang.specs.Assignment.{Use, reads, reads_of_addends, reads_of_factors, reads_of_members, reads_of_links, reads_of_clauses, reads_of_measures, Assigned, has_value, unassigned}
use Rattle.df_meaning.proofs.Cases.{both, three, four}
use Rattle.df_meaning.proofs.Counting.{use_there, joined_uses}

module _ (program : Program) (locals : List Ty) (before : Assigned) (all : (local : ℕ) → local < length locals → has_value before local ≡ true) where
  local_reads : (local : ℕ) (u : Use) → u.local ≡ local → (ty : Ty) (o : Option Ty) → slice_get locals local ≡ o → option_map_or (same_type ty) o false ≡ true → unassigned before (u ∷ []) ≡ []
  local_reads local u same ty None there is = absurd (let f : false ≡ true = is in cc)
  local_reads local u same ty (Some t) there is = use_there before u [] (subst (λ (k : ℕ). has_value before k ≡ true) (sym same) (all local (slice_get_within locals local t there))) refl

  mutual
    pub typed_reads : (e : Expr) (ty : Ty) → is_expr program locals ty e ≡ true → unassigned before (reads e) ≡ []
    typed_reads (Number own value at) ty is = refl
    typed_reads (Truth value at) ty is = refl
    typed_reads (Character code at) ty is = refl
    typed_reads (Local local name at) ty is = local_reads local (record { local = local; name = name; pos = at }) refl ty (slice_get locals local) refl is
    typed_reads (Negate own at operand) ty is = typed_reads operand ty (three (same_type own ty) (is_arithmetic program ty) (is_expr program locals ty operand) is).2
    typed_reads (Not at operand) ty is = typed_reads operand types.Bool (both (same_type ty types.Bool) (is_expr program locals types.Bool operand) is).1
    typed_reads (Sum own first rest) ty is =
        let is = four (same_type own ty) (is_arithmetic program ty) (is_expr program locals ty first) (are_addends program locals ty rest) is in
        joined_uses before (reads first) (reads_of_addends rest) (typed_reads first ty is.2) (addends_read rest ty is.3)
    typed_reads (Product own first rest) ty is =
        let is = four (same_type own ty) (is_arithmetic program ty) (is_expr program locals ty first) (are_factors program locals ty rest) is in
        joined_uses before (reads first) (reads_of_factors rest) (typed_reads first ty is.2) (factors_read rest ty is.3)
    typed_reads (Junction junction first rest) ty is =
        let is = three (same_type ty types.Bool) (is_expr program locals types.Bool first) (are_members program locals rest) is in
        joined_uses before (reads first) (reads_of_members rest) (typed_reads first types.Bool is.1) (members_read rest is.2)
    typed_reads (Implies arrow first rest) ty is =
        let is = three (same_type ty types.Bool) (is_expr program locals types.Bool first) (are_members program locals rest) is in
        joined_uses before (reads first) (reads_of_members rest) (typed_reads first types.Bool is.1) (members_read rest is.2)
    typed_reads (Iff first rest) ty is =
        let is = three (same_type ty types.Bool) (is_expr program locals types.Bool first) (are_members program locals rest) is in
        joined_uses before (reads first) (reads_of_members rest) (typed_reads first types.Bool is.1) (members_read rest is.2)
    typed_reads (Chain own first rest) ty is =
        let is = three (same_type ty types.Bool) (is_expr program locals own first) (are_links program locals own rest) is in
        joined_uses before (reads first) (reads_of_links rest) (typed_reads first own is.1) (links_read rest own is.2)
    typed_reads (As source target at operand) ty is = typed_reads operand source (three (same_type target ty) (casts program source target) (is_expr program locals source operand) is).2
    typed_reads (Convert source target at operand) ty is = typed_reads operand source (three (same_type target ty) (converts source target) (is_expr program locals source operand) is).2

    addends_read : (rest : Addends) (ty : Ty) → are_addends program locals ty rest ≡ true → unassigned before (reads_of_addends rest) ≡ []
    addends_read no_addend ty are = refl
    addends_read (addend operator at operand rest) ty are =
        let are = both (is_expr program locals ty operand) (are_addends program locals ty rest) are in
        joined_uses before (reads operand) (reads_of_addends rest) (typed_reads operand ty are.0) (addends_read rest ty are.1)

    factors_read : (rest : Factors) (ty : Ty) → are_factors program locals ty rest ≡ true → unassigned before (reads_of_factors rest) ≡ []
    factors_read no_factor ty are = refl
    factors_read (factor operator at operand rest) ty are =
        let are = both (is_expr program locals ty operand) (are_factors program locals ty rest) are in
        joined_uses before (reads operand) (reads_of_factors rest) (typed_reads operand ty are.0) (factors_read rest ty are.1)

    members_read : (rest : Members) → are_members program locals rest ≡ true → unassigned before (reads_of_members rest) ≡ []
    members_read no_member are = refl
    members_read (member at operand rest) are =
        let are = both (is_expr program locals types.Bool operand) (are_members program locals rest) are in
        joined_uses before (reads operand) (reads_of_members rest) (typed_reads operand types.Bool are.0) (members_read rest are.1)

    links_read : (rest : Links) (own : Ty) → are_links program locals own rest ≡ true → unassigned before (reads_of_links rest) ≡ []
    links_read no_link own are = refl
    links_read (link comparison at operand rest) own are =
        let are = three (compares program own comparison) (is_expr program locals own operand) (are_links program locals own rest) are in
        joined_uses before (reads operand) (reads_of_links rest) (typed_reads operand own are.1) (links_read rest own are.2)

  pub clauses_read : (clauses : List Clause) → are_clauses program locals clauses ≡ true → unassigned before (reads_of_clauses clauses) ≡ []
  clauses_read [] are = refl
  clauses_read (clause ∷ others) are =
      let are = both (is_expr program locals types.Bool clause.condition) (are_clauses program locals others) are in
      joined_uses before (reads clause.condition) (reads_of_clauses others) (typed_reads clause.condition types.Bool are.0) (clauses_read others are.1)

  measures_read : (measures : List Measure) → are_measures program locals (Some measures) ≡ true → unassigned before (reads_of_measures (Some measures)) ≡ []
  measures_read [] are = refl
  measures_read (measure ∷ others) are =
      let are = both (is_type program measure.ty && is_expr program locals measure.ty measure.value) (are_measures program locals (Some others)) are in
      joined_uses before (reads measure.value) (reads_of_measures (Some others)) (typed_reads measure.value measure.ty (both (is_type program measure.ty) (is_expr program locals measure.ty measure.value) are.0).1) (measures_read others are.1)

  parameters_read : (from : ℕ) (params : List Param) → from + length params ≤ length locals → unassigned before (reads_of_measures (Some (parameters_from from params))) ≡ []
  parameters_read from [] le = refl
  parameters_read from (param ∷ others) le =
      use_there before (record { local = from; name = param.declared.name; pos = param.declared.pos }) (reads_of_measures (Some (parameters_from (suc from) others))) (all from (omega (arith, le))) (parameters_read (suc from) others (omega (arith, le)))

  -- the measure of a method, over its parameters
  pub method_measure_reads : (method : Method) → are_measures program locals method.decreases ≡ true → length method.parameters ≤ length locals → unassigned before (reads_of_measures (Some (method_measure method))) ≡ []
  method_measure_reads method are le = by_clause method.decreases are
    where
      by_clause : (o : Option (List Measure)) → are_measures program locals o ≡ true → unassigned before (reads_of_measures (Some (unwrap_or o (parameters_from 0 method.parameters)))) ≡ []
      by_clause None are = parameters_read 0 method.parameters (omega (arith, le))
      by_clause (Some measures) are = measures_read measures are
