-- In what compiles each number at a place, and each result of arithmetic, has an interval.
use Rattle.std.proofs.Common.{◌≡◌, ℕ, zero, suc, Bool, true, false, not, ◌&&◌, List, [], ◌∷◌, ◌++◌, map, length, slice_get, is_some, Option, None, Some, refl, sym, ◌∙◌, subst}
use Rattle.std.proofs.lemmas.List.Folds.{list_all-append}
use Rattle.std.specs.Option.{option_map, option_map_or, option_and_then}
use Rattle.std.specs.List.{list_all, flat_map}
use Rattle.df_base.specs.declared.pos.Pos.{Pos}
use Rattle.df_lang.specs.declared.ty.Ty.{Ty}
use Rattle.df_lang.specs.declared.ty.Ty.TheVariants as types
use Rattle.df_lang.specs.declared.expr.Arrow.TheVariants as arrows
use Rattle.df_lang.specs.Newtype.{Newtype, same_type, is_unbounded}
use Rattle.df_lang.specs.Expr.{Expr, Number, Truth, Character, Local, Negate, Not, Sum, Product, Junction, Implies, Iff, Chain, As, Convert, Addends, no_addend, addend, Factors, no_factor, factor, Members, no_member, member, Links, no_link, link}
use Rattle.df_lang.specs.Stmt.{Operand, Text, Value, Target, Call, Source, Single, Results, Update, Variable, Stmt, Block, Var, Assign, CallOf, If, While, Break, Return, Assert, Print, Stmts, done, next, Branches, no_branch, branch}
use Rattle.df_lang.specs.Program.{Param, Method, Decl, NewtypeDecl, MethodDecl, Program, as_method, newtype_at, method_at, types_of}
use Rattle.df_lang.specs.Typing.{are_same_types, is_type, is_arithmetic, casts, converts, compares, is_expr, are_addends, are_factors, are_members, are_links, are_exprs, are_clauses, are_measures, Setting, over_locals, inside_loop, is_operand, is_call, are_results, is_source, source_types, is_target, is_update, may_update, are_numbered, variable_numbers, variable_types, locals_after, locals_after_all, locals_after_branches, gives_results, is_measured, is_stmt, are_stmts, are_branches, is_decl, is_method}
use Rattle.df_lang.specs.Marks.{are_unmarked_variables, are_unmarked_params, is_unmarked, are_unmarked, are_unmarked_branches, has_no_ghost}
use Rattle.df_lang.specs.Native.{Breach, if_int, if_int_elsewhere, if_nat, breaches, breaches_of_addends, breaches_of_factors, breaches_of_members, breaches_of_turned, breaches_of_links, breaches_of_printed, breaches_of_source, breaches_of_update, breaches_of_place, breaches_of_variables, breaches_of_params, breaches_in, breaches_in_all, breaches_in_branches, breaches_in_method}
use Rattle.df_meaning.proofs.Cases.{both, three, four, joined}
use Rattle.df_meaning.proofs.Types.{same_type_equal}
use Rattle.df_meaning.proofs.Wholes.{body_typed}
use Rattle.df_nplain.specs.Kind.{Between, Unbounded}
use Rattle.df_nplain.specs.Stmt as plain_stmt
use Rattle.df_nplain.specs.Bounded.{is_interval, is_bounded_kind, is_bounded_variable, is_bounded, are_bounded_addends, are_bounded_factors, are_bounded_members, are_bounded_links, is_bounded_operand, is_bounded_source, is_bounded_call, is_bounded_update, is_bounded_stmt, are_bounded_stmts, are_bounded_branches, is_bounded_method}
use Rattle.df_nerase.specs.Erasing.{range_of, kind_of, kinds_of, methods_among, erase_variable, erase_expr, erase_addends, erase_factors, erase_members, erase_links, erase_operand, erase_call, erase_source, erase_update, kept, erase_stmt, erase_stmts, erase_branches, erase_method}
use Rattle.df_nerase.specs.Running.{NativeProgramsAreBounded}

pub nothing_in : (front others : List Breach) → front ++ others ≡ [] → (front ≡ []) × (others ≡ [])
nothing_in [] others e = (refl, e)
nothing_in (b ∷ bs) others e = cc

pub nothing_in_three : (front others rest : List Breach) → front ++ others ++ rest ≡ [] → (front ≡ []) × (others ≡ []) × (rest ≡ [])
nothing_in_three front others rest e = let a = nothing_in (front ++ others) rest e in let b = nothing_in front others a.0 in (b.0, b.1, a.1)

all_three : (a b c : Bool) → a ≡ true → b ≡ true → c ≡ true → (a && b && c) ≡ true
all_three true true c h k l = l
all_three true false c h k l = cc
all_three false b c h k l = cc

newtype_interval : (o : Option Newtype) → is_some o ≡ true → is_interval (option_map_or (λ (newtype : Newtype). Between newtype.low newtype.high) o Unbounded) ≡ true
newtype_interval None h = cc
newtype_interval (Some newtype) h = refl

-- ---- places

-- a place that is no ghost's is neither of `int` nor of `nat`
pub bounded_type : (is_ghost : Bool) (ty : Ty) (at : Pos) → not is_ghost ≡ true → breaches_of_place is_ghost ty at ≡ [] → is_unbounded ty ≡ false
bounded_type true ty at unmarked none = cc
bounded_type false (types.Newtype id) at unmarked none = refl
bounded_type false types.Int at unmarked none = cc
bounded_type false types.Nat at unmarked none = cc
bounded_type false types.Bool at unmarked none = refl
bounded_type false types.Char at unmarked none = refl

kind_bounded : (p : Program) (ty : Ty) → is_type p ty ≡ true → is_unbounded ty ≡ false → is_bounded_kind (kind_of p ty) ≡ true
kind_bounded p (types.Newtype id) is none = newtype_interval (newtype_at p id) is
kind_bounded p types.Int is none = cc
kind_bounded p types.Nat is none = cc
kind_bounded p types.Bool is none = refl
kind_bounded p types.Char is none = refl

params_bounded : (p : Program) (params : List Param) → are_unmarked_params params ≡ true → list_all (is_type p) (types_of params) ≡ true → breaches_of_params params ≡ [] → list_all is_bounded_kind (kinds_of p params) ≡ true
params_bounded p [] unmarked are none = refl
params_bounded p (param ∷ others) unmarked are none =
    let unmarked = both (not param.is_ghost) (are_unmarked_params others) unmarked in
    let are = both (is_type p param.ty) (list_all (is_type p) (types_of others)) are in
    let none = nothing_in (breaches_of_place param.is_ghost param.ty param.declared.pos) (breaches_of_params others) none in
    joined _ _ (kind_bounded p param.ty are.0 (bounded_type param.is_ghost param.ty param.declared.pos unmarked.0 none.0)) (params_bounded p others unmarked.1 are.1 none.1)

variables_bounded : (p : Program) (variables : List Variable) → are_unmarked_variables variables ≡ true → list_all (is_type p) (variable_types variables) ≡ true → breaches_of_variables variables ≡ []
    → list_all is_bounded_variable (map (erase_variable p) variables) ≡ true
variables_bounded p [] unmarked are none = refl
variables_bounded p (variable ∷ others) unmarked are none =
    let unmarked = both (not variable.is_ghost) (are_unmarked_variables others) unmarked in
    let are = both (is_type p variable.ty) (list_all (is_type p) (variable_types others)) are in
    let none = nothing_in (breaches_of_place variable.is_ghost variable.ty variable.pos) (breaches_of_variables others) none in
    joined _ _ (kind_bounded p variable.ty are.0 (bounded_type variable.is_ghost variable.ty variable.pos unmarked.0 none.0)) (variables_bounded p others unmarked.1 are.1 none.1)

-- ---- arithmetic

-- arithmetic that is neither of `int` nor of `nat` is of a newtype
has_interval : (p : Program) (own ty : Ty) (at : Pos) → same_type own ty ≡ true → is_arithmetic p ty ≡ true → if_int own at ≡ [] → is_interval (range_of p own) ≡ true
has_interval p own ty at same arithmetic none = by_type own (subst (λ (t : Ty). is_arithmetic p t ≡ true) (sym (same_type_equal own ty same)) arithmetic) none
  where
    by_type : (t : Ty) → is_arithmetic p t ≡ true → if_int t at ≡ [] → is_interval (range_of p t) ≡ true
    by_type (types.Newtype id) a e = newtype_interval (newtype_at p id) a
    by_type types.Int a e = cc
    by_type types.Nat a e = cc
    by_type types.Bool a e = cc
    by_type types.Char a e = cc

-- ---- expressions

module _ (p : Program) (locals : List Ty) where
  mutual
    expr_bounded : (e : Expr) (operand_here : Bool) (ty : Ty) → is_expr p locals ty e ≡ true → breaches operand_here e ≡ [] → is_bounded (erase_expr p e) ≡ true
    expr_bounded (Number own value at) b ty is none = refl
    expr_bounded (Truth value at) b ty is none = refl
    expr_bounded (Character code at) b ty is none = refl
    expr_bounded (Local local name at) b ty is none = refl
    expr_bounded (Negate own at operand) b ty is none =
        let is = three (same_type own ty) (is_arithmetic p ty) (is_expr p locals ty operand) is in
        let none = nothing_in (breaches false operand) (if_int own at) none in
        joined _ _ (has_interval p own ty at is.0 is.1 none.1) (expr_bounded operand false ty is.2 none.0)
    expr_bounded (Not at operand) b ty is none =
        let is = both (same_type ty types.Bool) (is_expr p locals types.Bool operand) is in expr_bounded operand false types.Bool is.1 none
    expr_bounded (Sum own first rest) b ty is none =
        let is = four (same_type own ty) (is_arithmetic p ty) (is_expr p locals ty first) (are_addends p locals ty rest) is in
        let none = nothing_in (breaches false first) (breaches_of_addends own rest) none in
        joined _ _ (expr_bounded first false ty is.2 none.0) (addends_bounded rest own ty is.0 is.1 is.3 none.1)
    expr_bounded (Product own first rest) b ty is none =
        let is = four (same_type own ty) (is_arithmetic p ty) (is_expr p locals ty first) (are_factors p locals ty rest) is in
        let none = nothing_in (breaches false first) (breaches_of_factors own rest) none in
        joined _ _ (expr_bounded first false ty is.2 none.0) (factors_bounded rest own ty is.0 is.1 is.3 none.1)
    expr_bounded (Junction junction first rest) b ty is none =
        let is = three (same_type ty types.Bool) (is_expr p locals types.Bool first) (are_members p locals rest) is in
        let none = nothing_in (breaches false first) (breaches_of_members rest) none in
        joined _ _ (expr_bounded first false types.Bool is.1 none.0) (members_bounded rest is.2 none.1)
    expr_bounded (Implies arrows.Implies first rest) b ty is none =
        let is = three (same_type ty types.Bool) (is_expr p locals types.Bool first) (are_members p locals rest) is in
        let none = nothing_in (breaches false first) (breaches_of_members rest) none in
        joined _ _ (expr_bounded first false types.Bool is.1 none.0) (members_bounded rest is.2 none.1)
    expr_bounded (Implies arrows.Explies first rest) b ty is none =
        let is = three (same_type ty types.Bool) (is_expr p locals types.Bool first) (are_members p locals rest) is in
        let none = nothing_in (breaches_of_turned rest) (breaches false first) none in
        joined _ _ (expr_bounded first false types.Bool is.1 none.1) (turned_bounded rest is.2 none.0)
    expr_bounded (Iff first rest) b ty is none =
        let is = three (same_type ty types.Bool) (is_expr p locals types.Bool first) (are_members p locals rest) is in
        let none = nothing_in (breaches false first) (breaches_of_members rest) none in
        joined _ _ (expr_bounded first false types.Bool is.1 none.0) (members_bounded rest is.2 none.1)
    expr_bounded (Chain own first rest) b ty is none =
        let is = three (same_type ty types.Bool) (is_expr p locals own first) (are_links p locals own rest) is in
        let none = nothing_in (breaches true first) (breaches_of_links rest) none in
        joined _ _ (expr_bounded first true own is.1 none.0) (links_bounded rest own is.2 none.1)
    expr_bounded (As from target at operand) b ty is none =
        let is = three (same_type target ty) (casts p from target) (is_expr p locals from operand) is in
        let none = nothing_in_three (breaches true operand) (if_int_elsewhere b target at) (if_nat target at) none in
        expr_bounded operand true from is.2 none.0
    expr_bounded (Convert from target at operand) b ty is none =
        let is = three (same_type target ty) (converts from target) (is_expr p locals from operand) is in expr_bounded operand b from is.2 none

    addends_bounded : (rest : Addends) (own ty : Ty) → same_type own ty ≡ true → is_arithmetic p ty ≡ true → are_addends p locals ty rest ≡ true → breaches_of_addends own rest ≡ []
        → are_bounded_addends (range_of p own) (erase_addends p rest) ≡ true
    addends_bounded no_addend own ty same arithmetic is none = refl
    addends_bounded (addend operator at operand rest) own ty same arithmetic is none =
        let is = both (is_expr p locals ty operand) (are_addends p locals ty rest) is in
        let none = nothing_in_three (breaches false operand) (if_int own at) (breaches_of_addends own rest) none in
        all_three _ _ _ (has_interval p own ty at same arithmetic none.1) (expr_bounded operand false ty is.0 none.0) (addends_bounded rest own ty same arithmetic is.1 none.2)

    factors_bounded : (rest : Factors) (own ty : Ty) → same_type own ty ≡ true → is_arithmetic p ty ≡ true → are_factors p locals ty rest ≡ true → breaches_of_factors own rest ≡ []
        → are_bounded_factors (range_of p own) (erase_factors p rest) ≡ true
    factors_bounded no_factor own ty same arithmetic is none = refl
    factors_bounded (factor operator at operand rest) own ty same arithmetic is none =
        let is = both (is_expr p locals ty operand) (are_factors p locals ty rest) is in
        let none = nothing_in_three (breaches false operand) (if_int own at) (breaches_of_factors own rest) none in
        all_three _ _ _ (has_interval p own ty at same arithmetic none.1) (expr_bounded operand false ty is.0 none.0) (factors_bounded rest own ty same arithmetic is.1 none.2)

    members_bounded : (rest : Members) → are_members p locals rest ≡ true → breaches_of_members rest ≡ [] → are_bounded_members (erase_members p rest) ≡ true
    members_bounded no_member is none = refl
    members_bounded (member at operand rest) is none =
        let is = both (is_expr p locals types.Bool operand) (are_members p locals rest) is in
        let none = nothing_in (breaches false operand) (breaches_of_members rest) none in
        joined _ _ (expr_bounded operand false types.Bool is.0 none.0) (members_bounded rest is.1 none.1)

    turned_bounded : (rest : Members) → are_members p locals rest ≡ true → breaches_of_turned rest ≡ [] → are_bounded_members (erase_members p rest) ≡ true
    turned_bounded no_member is none = refl
    turned_bounded (member at operand rest) is none =
        let is = both (is_expr p locals types.Bool operand) (are_members p locals rest) is in
        let none = nothing_in (breaches_of_turned rest) (breaches false operand) none in
        joined _ _ (expr_bounded operand false types.Bool is.0 none.1) (turned_bounded rest is.1 none.0)

    links_bounded : (rest : Links) (ty : Ty) → are_links p locals ty rest ≡ true → breaches_of_links rest ≡ [] → are_bounded_links (erase_links p rest) ≡ true
    links_bounded no_link ty is none = refl
    links_bounded (link comparison at operand rest) ty is none =
        let is = three (compares p ty comparison) (is_expr p locals ty operand) (are_links p locals ty rest) is in
        let none = nothing_in (breaches true operand) (breaches_of_links rest) none in
        joined _ _ (expr_bounded operand true ty is.1 none.0) (links_bounded rest ty is.2 none.1)

  exprs_bounded : (tys : List Ty) (es : List Expr) → are_exprs p locals tys es ≡ true → flat_map (breaches false) es ≡ [] → list_all is_bounded (map (erase_expr p) es) ≡ true
  exprs_bounded [] [] is none = refl
  exprs_bounded [] (e ∷ es) is none = cc
  exprs_bounded (ty ∷ tys) [] is none = cc
  exprs_bounded (ty ∷ tys) (e ∷ es) is none =
      let is = both (is_expr p locals ty e) (are_exprs p locals tys es) is in
      let none = nothing_in (breaches false e) (flat_map (breaches false) es) none in
      joined _ _ (expr_bounded e false ty is.0 none.0) (exprs_bounded tys es is.1 none.1)

-- ---- statements

call_bounded : (setting : Setting) (call : Call) → is_call setting call ≡ true → flat_map (breaches false) call.arguments ≡ [] → is_bounded_call (erase_call setting.program call) ≡ true
call_bounded setting call is none = by_callee (method_at setting.program call.callee) is
  where
    by_callee : (o : Option Method) → option_map_or (λ (method : Method). are_exprs setting.program setting.locals (types_of method.parameters) call.arguments) o false ≡ true → list_all is_bounded (map (erase_expr setting.program) call.arguments) ≡ true
    by_callee None h = cc
    by_callee (Some method) h = exprs_bounded setting.program setting.locals (types_of method.parameters) call.arguments h none

sources_bounded : (setting : Setting) (sources : List Source) → list_all (is_source setting) sources ≡ true → flat_map breaches_of_source sources ≡ [] → list_all is_bounded_source (map (erase_source setting.program) sources) ≡ true
sources_bounded setting [] are none = refl
sources_bounded setting (source ∷ others) are none =
    let are = both (is_source setting source) (list_all (is_source setting) others) are in
    let none = nothing_in (breaches_of_source source) (flat_map breaches_of_source others) none in
    joined _ _ (by_source source are.0 none.0) (sources_bounded setting others are.1 none.1)
  where
    by_source : (x : Source) → is_source setting x ≡ true → breaches_of_source x ≡ [] → is_bounded_source (erase_source setting.program x) ≡ true
    by_source (Single ty value) is e = expr_bounded setting.program setting.locals value false ty (both (is_type setting.program ty) (is_expr setting.program setting.locals ty value) is).1 e
    by_source (Results call results) is e = call_bounded setting call (both (is_call setting call) (are_results setting.program call results) is).0 e

update_bounded : (setting : Setting) (update : Option Update) → may_update setting update ≡ true → breaches_of_update update ≡ [] → is_bounded_update (option_map (erase_update setting.program) update) ≡ true
update_bounded setting None is none = refl
update_bounded setting (Some update) is none =
    let is = three (list_all (is_target setting) update.targets) (list_all (is_source setting) update.sources) (are_same_types (flat_map source_types update.sources) (map (λ (target : Target). target.ty) update.targets)) is in
    sources_bounded setting update.sources is.1 none

operands_bounded : (setting : Setting) (operands : List Operand) → list_all (is_operand setting) operands ≡ true → flat_map breaches_of_printed operands ≡ [] → list_all is_bounded_operand (map (erase_operand setting.program) operands) ≡ true
operands_bounded setting [] are none = refl
operands_bounded setting (operand ∷ others) are none =
    let are = both (is_operand setting operand) (list_all (is_operand setting) others) are in
    let none = nothing_in (breaches_of_printed operand) (flat_map breaches_of_printed others) none in
    joined _ _ (by_operand operand are.0 none.0) (operands_bounded setting others are.1 none.1)
  where
    by_operand : (x : Operand) → is_operand setting x ≡ true → breaches_of_printed x ≡ [] → is_bounded_operand (erase_operand setting.program x) ≡ true
    by_operand (Text characters) is e = refl
    by_operand (Value ty value) is e = expr_bounded setting.program setting.locals value false ty (both (is_type setting.program ty) (is_expr setting.program setting.locals ty value) is).1 e

pub return_typed : (setting : Setting) (update : Option Update) → is_stmt setting (Return (record { line = 1; col = 1 }) update) ≡ true → may_update setting update ≡ true
return_typed setting None is = refl
return_typed setting (Some update) is = (both (is_update setting update) (gives_results setting update) is).0

-- what is left of a statement
abbrev IsBounded : Option plain_stmt.Stmt → Type 0
IsBounded None = Unit {0}
IsBounded (Some stmt) = is_bounded_stmt stmt ≡ true

kept_bounded : (o : Option plain_stmt.Stmt) (others : plain_stmt.Stmts) → IsBounded o → are_bounded_stmts others ≡ true → are_bounded_stmts (kept o others) ≡ true
kept_bounded None others h k = k
kept_bounded (Some stmt) others h k = joined _ _ h k

mutual
  stmt_bounded : (stmt : Stmt) (setting : Setting) → is_stmt setting stmt ≡ true → is_unmarked stmt ≡ true → breaches_in stmt ≡ [] → IsBounded (erase_stmt setting.program stmt)
  stmt_bounded (Block at body) setting is unmarked none = stmts_bounded body setting is unmarked none
  stmt_bounded (Var at variables update) setting is unmarked none =
      let is = three (are_numbered (length setting.locals) (variable_numbers variables)) (list_all (is_type setting.program) (variable_types variables)) (may_update (over_locals setting (setting.locals ++ variable_types variables)) update) is in
      let none = nothing_in (breaches_of_variables variables) (breaches_of_update update) none in
      joined _ _ (variables_bounded setting.program variables unmarked is.1 none.0) (update_bounded (over_locals setting (setting.locals ++ variable_types variables)) update is.2 none.1)
  stmt_bounded (Assign at update) setting is unmarked none = update_bounded setting (Some update) is none
  stmt_bounded (CallOf call) setting is unmarked none = call_bounded setting call is none
  stmt_bounded (If branches otherwise) setting is unmarked none =
      let is = both (are_branches setting branches) (are_stmts (over_locals setting (locals_after_branches setting.locals branches)) otherwise) is in
      let unmarked = both (are_unmarked_branches branches) (are_unmarked otherwise) unmarked in
      let none = nothing_in (breaches_in_branches branches) (breaches_in_all otherwise) none in
      joined _ _ (branches_bounded branches setting is.0 unmarked.0 none.0) (stmts_bounded otherwise (over_locals setting (locals_after_branches setting.locals branches)) is.1 unmarked.1 none.1)
  stmt_bounded (While at guard invariants decreases body) setting is unmarked none =
      let is = four (is_expr setting.program setting.locals types.Bool guard) (are_clauses setting.program setting.locals invariants) (is_measured setting guard decreases) (are_stmts (inside_loop setting) body) is in
      let none = nothing_in (breaches false guard) (breaches_in_all body) none in
      joined _ _ (expr_bounded setting.program setting.locals guard false types.Bool is.0 none.0) (stmts_bounded body (inside_loop setting) is.3 unmarked none.1)
  stmt_bounded (Break at) setting is unmarked none = refl
  stmt_bounded (Return at update) setting is unmarked none = update_bounded setting update (return_typed setting update is) none
  stmt_bounded (Assert at condition) setting is unmarked none = tt
  stmt_bounded (Print at operands) setting is unmarked none = operands_bounded setting operands is none

  stmts_bounded : (stmts : Stmts) (setting : Setting) → are_stmts setting stmts ≡ true → are_unmarked stmts ≡ true → breaches_in_all stmts ≡ [] → are_bounded_stmts (erase_stmts setting.program stmts) ≡ true
  stmts_bounded done setting is unmarked none = refl
  stmts_bounded (next stmt others) setting is unmarked none =
      let is = both (is_stmt setting stmt) (are_stmts (over_locals setting (locals_after setting.locals stmt)) others) is in
      let unmarked = both (is_unmarked stmt) (are_unmarked others) unmarked in
      let none = nothing_in (breaches_in stmt) (breaches_in_all others) none in
      kept_bounded (erase_stmt setting.program stmt) (erase_stmts setting.program others) (stmt_bounded stmt setting is.0 unmarked.0 none.0) (stmts_bounded others (over_locals setting (locals_after setting.locals stmt)) is.1 unmarked.1 none.1)

  branches_bounded : (branches : Branches) (setting : Setting) → are_branches setting branches ≡ true → are_unmarked_branches branches ≡ true → breaches_in_branches branches ≡ [] → are_bounded_branches (erase_branches setting.program branches) ≡ true
  branches_bounded no_branch setting is unmarked none = refl
  branches_bounded (branch at guard body rest) setting is unmarked none =
      let is = three (is_expr setting.program setting.locals types.Bool guard) (are_stmts setting body) (are_branches (over_locals setting (locals_after_all setting.locals body)) rest) is in
      let unmarked = both (are_unmarked body) (are_unmarked_branches rest) unmarked in
      let none = nothing_in_three (breaches false guard) (breaches_in_all body) (breaches_in_branches rest) none in
      all_three _ _ _ (expr_bounded setting.program setting.locals guard false types.Bool is.0 none.0) (stmts_bounded body setting is.1 unmarked.0 none.1) (branches_bounded rest (over_locals setting (locals_after_all setting.locals body)) is.2 unmarked.1 none.2)

-- ---- programs

-- the types of parameters and results
pub places_typed : (p : Program) (method : Method) → is_method p method ≡ true → (list_all (is_type p) (types_of method.parameters) ≡ true) × (list_all (is_type p) (types_of method.results) ≡ true)
places_typed p method is =
    let parameters = types_of method.parameters in
    let all = parameters ++ types_of method.results in
    let front = both (list_all (is_type p) all && are_clauses p parameters method.preconditions && are_clauses p all method.postconditions && are_measures p parameters method.decreases)
    (are_stmts (record { program = p; method = method; locals = all; in_loop = false }) method.body) is in
    let first = four (list_all (is_type p) all) (are_clauses p parameters method.preconditions) (are_clauses p all method.postconditions) (are_measures p parameters method.decreases) front.0 in
    both (list_all (is_type p) parameters) (list_all (is_type p) (types_of method.results)) (sym (list_all-append (is_type p) parameters (types_of method.results)) ∙ first.0)

method_bounded : (p : Program) (method : Method) → is_method p method ≡ true → has_no_ghost method ≡ true → breaches_in_method method ≡ [] → is_bounded_method (erase_method p method) ≡ true
method_bounded p method is unmarked none =
    let setting : Setting = record { program = p; method = method; locals = types_of method.parameters ++ types_of method.results; in_loop = false } in
    let typed = places_typed p method is in
    let unmarked = three (are_unmarked_params method.parameters) (are_unmarked_params method.results) (are_unmarked method.body) unmarked in
    let none = nothing_in_three (breaches_of_params method.parameters) (breaches_of_params method.results) (breaches_in_all method.body) none in
    all_three _ _ _ (params_bounded p method.parameters unmarked.0 typed.0 none.0) (params_bounded p method.results unmarked.1 typed.1 none.1) (stmts_bounded method.body setting (body_typed p method is) unmarked.2 none.2)

methods_bounded : (p : Program) (decls : List Decl) → list_all (is_decl p) decls ≡ true → ((id : ℕ) (method : Method) → option_and_then as_method (slice_get decls id) ≡ Some method → breaches_in_method method ≡ [])
    → list_all is_bounded_method (map (erase_method p) (methods_among decls)) ≡ true
methods_bounded p [] are none = refl
methods_bounded p (NewtypeDecl newtype ∷ others) are none =
    methods_bounded p others (both (is_decl p (NewtypeDecl newtype)) (list_all (is_decl p) others) are).1 (λ id method there. none (suc id) method there)
methods_bounded p (MethodDecl method ∷ others) are none =
    let are = both (is_decl p (MethodDecl method)) (list_all (is_decl p) others) are in
    let is = both (is_method p method) (has_no_ghost method) are.0 in
    joined _ _ (method_bounded p method is.0 is.1 (none zero method refl)) (methods_bounded p others are.1 (λ id other there. none (suc id) other there))

pub native_programs_are_bounded : NativeProgramsAreBounded
native_programs_are_bounded program well native = methods_bounded program program.decls well native
