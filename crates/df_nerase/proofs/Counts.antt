-- In a well-typed program calls and updates have as many values as are asked for, and so they have without ghosts.
use Rattle.std.proofs.Common.{◌≡◌, ℕ, suc, true, false, ◌==◌, ◌&&◌, List, [], ◌∷◌, ◌++◌, map, length, Option, None, Some, refl, sym, ap, ◌∙◌, subst, arith, length-append}
use Rattle.std.proofs.lemmas.Bool.Decides.{nat_tests}
use Rattle.std.proofs.lemmas.List.{length-map}
use Rattle.std.specs.Option.{option_map, option_map_or}
use Rattle.std.specs.List.{list_all, flat_map}
use Rattle.df_lang.specs.declared.ty.Ty.{Ty}
use Rattle.df_lang.specs.declared.ty.Ty.TheVariants as types
use Rattle.df_lang.specs.Expr.{Expr}
use Rattle.df_lang.specs.Stmt.{Target, Call, Conversion, Source, Single, Results, Update, Stmt, Block, Var, Assign, CallOf, If, While, Break, Return, Assert, Print, Stmts, done, next, Branches, no_branch, branch}
use Rattle.df_lang.specs.Program.{Param, Method, Decl, NewtypeDecl, MethodDecl, Program, method_at, types_of}
use Rattle.df_lang.specs.Newtype.{same_type}
use Rattle.df_lang.specs.Typing.{are_same_types, is_type, converts, is_expr, are_exprs, are_clauses, Setting, over_locals, inside_loop, is_call, are_results, is_source, source_types, is_target, may_update, are_numbered, variable_numbers, variable_types, locals_after, locals_after_all, locals_after_branches, is_measured, is_stmt, are_stmts, are_branches, is_decl, is_method}
use Rattle.df_lang.specs.Marks.{has_no_ghost}
use Rattle.df_meaning.proofs.Cases.{both, three, four, joined}
use Rattle.df_meaning.proofs.Wholes.{body_typed}
use Rattle.df_nplain.specs.Stmt as plain_stmt
use Rattle.df_nplain.specs.Plain as plain
use Rattle.df_nplain.specs.Counts as counts
use Rattle.df_nerase.specs.Erasing.{kind_of, kinds_of, method_number, methods_among, erase_expr, erase_call, erase_source, erase_update, kept, erase_stmt, erase_stmts, erase_branches, erase_method, erased}
use Rattle.df_nerase.specs.Running.{CountsAreKept}
use Rattle.df_nerase.proofs.Methods.{methods_are_found}
use Rattle.df_nerase.proofs.Bounded.{return_typed}

equal : (m n : ℕ) → m ≡ n → (m == n) ≡ true
equal m n e = grind (arith, nat_tests)

-- ---- lists of one length

same_long : (xs ys : List Ty) → are_same_types xs ys ≡ true → length xs ≡ length ys
same_long [] [] same = refl
same_long [] (y ∷ ys) same = cc
same_long (x ∷ xs) [] same = cc
same_long (x ∷ xs) (y ∷ ys) same = ap suc (same_long xs ys (both (same_type x y) (are_same_types xs ys) same).1)

exprs_long : (p : Program) (locals tys : List Ty) (es : List Expr) → are_exprs p locals tys es ≡ true → length es ≡ length tys
exprs_long p locals [] [] are = refl
exprs_long p locals [] (e ∷ es) are = cc
exprs_long p locals (ty ∷ tys) [] are = cc
exprs_long p locals (ty ∷ tys) (e ∷ es) are = ap suc (exprs_long p locals tys es (both (is_expr p locals ty e) (are_exprs p locals tys es) are).1)

types_long : (params : List Param) → length (types_of params) ≡ length params
types_long params = length-map params (λ (param : Param). param.ty)

kinds_long : (p : Program) (params : List Param) → length (kinds_of p params) ≡ length params
kinds_long p params = length-map params (λ (param : Param). kind_of p param.ty)

-- ---- calls

call_counted : (setting : Setting) (call : Call) → is_call setting call ≡ true → counts.is_call (erased setting.program) (erase_call setting.program call) ≡ true
call_counted setting call is = by_callee (method_at setting.program call.callee) refl is
  where
    by_callee : (o : Option Method) → method_at setting.program call.callee ≡ o → option_map_or (λ (method : Method). are_exprs setting.program setting.locals (types_of method.parameters) call.arguments) o false ≡ true
        → counts.is_call (erased setting.program) (erase_call setting.program call) ≡ true
    by_callee None e h = cc
    by_callee (Some method) e h =
        let p = setting.program in
        let many : length (map (erase_expr p) call.arguments) ≡ length (kinds_of p method.parameters) =
        length-map call.arguments (erase_expr p) ∙ exprs_long p setting.locals (types_of method.parameters) call.arguments h ∙ types_long method.parameters ∙ sym (kinds_long p method.parameters) in
        subst (λ (o : Option plain.Method). option_map_or (λ (m : plain.Method). length (map (erase_expr p) call.arguments) == length m.parameters) o false ≡ true)
        (sym (methods_are_found p call.callee method e)) (equal _ _ many)

results_counted : (p : Program) (call : Call) (results : List Conversion) → are_results p call results ≡ true → plain.results_at (erased p) (method_number p call.callee) ≡ length results
results_counted p call results are =
    by_callee (method_at p call.callee) refl
    (both (option_map_or (λ (method : Method). are_same_types (map (λ (c : Conversion). c.source) results) (types_of method.results)) (method_at p call.callee) false)
    (list_all (λ (c : Conversion). is_type p c.target && converts c.source c.target) results) are).0
  where
    by_callee : (o : Option Method) → method_at p call.callee ≡ o → option_map_or (λ (method : Method). are_same_types (map (λ (c : Conversion). c.source) results) (types_of method.results)) o false ≡ true
        → plain.results_at (erased p) (method_number p call.callee) ≡ length results
    by_callee None e h = cc
    by_callee (Some method) e h =
        ap (λ (o : Option plain.Method). option_map_or (λ (m : plain.Method). length m.results) o 0) (methods_are_found p call.callee method e)
        ∙ kinds_long p method.results
        ∙ sym (types_long method.results)
        ∙ sym (same_long (map (λ (c : Conversion). c.source) results) (types_of method.results) h)
        ∙ length-map results (λ (c : Conversion). c.source)

-- ---- updates

sources_counted : (setting : Setting) (sources : List Source) → list_all (is_source setting) sources ≡ true → list_all (counts.is_source (erased setting.program)) (map (erase_source setting.program) sources) ≡ true
sources_counted setting [] are = refl
sources_counted setting (Single ty value ∷ others) are =
    sources_counted setting others (both (is_source setting (Single ty value)) (list_all (is_source setting) others) are).1
sources_counted setting (Results call results ∷ others) are =
    let are = both (is_source setting (Results call results)) (list_all (is_source setting) others) are in
    joined _ _ (call_counted setting call (both (is_call setting call) (are_results setting.program call results) are.0).0) (sources_counted setting others are.1)

count_is : (setting : Setting) (sources : List Source) → list_all (is_source setting) sources ≡ true → counts.count_of (erased setting.program) (map (erase_source setting.program) sources) ≡ length (flat_map source_types sources)
count_is setting [] are = refl
count_is setting (Single ty value ∷ others) are =
    let rest = count_is setting others (both (is_source setting (Single ty value)) (list_all (is_source setting) others) are).1 in omega (arith, rest)
count_is setting (Results call results ∷ others) are =
    let are = both (is_source setting (Results call results)) (list_all (is_source setting) others) are in
    let rest = count_is setting others are.1 in
    let first = results_counted setting.program call results (both (is_call setting call) (are_results setting.program call results) are.0).1 in
    let targets = map (λ (c : Conversion). c.target) results in
    omega (arith, rest, first, length-map results (λ (c : Conversion). c.target), length-append targets (flat_map source_types others))

update_counted : (setting : Setting) (update : Option Update) → may_update setting update ≡ true → counts.is_update (erased setting.program) (option_map (erase_update setting.program) update) ≡ true
update_counted setting None is = refl
update_counted setting (Some update) is =
    let is = three (list_all (is_target setting) update.targets) (list_all (is_source setting) update.sources) (are_same_types (flat_map source_types update.sources) (map (λ (target : Target). target.ty) update.targets)) is in
    let many : counts.count_of (erased setting.program) (map (erase_source setting.program) update.sources) ≡ length (map (λ (target : Target). target.local) update.targets) =
    count_is setting update.sources is.1 ∙ same_long (flat_map source_types update.sources) (map (λ (target : Target). target.ty) update.targets) is.2
    ∙ length-map update.targets (λ (target : Target). target.ty) ∙ sym (length-map update.targets (λ (target : Target). target.local)) in
    joined _ _ (sources_counted setting update.sources is.1) (equal _ _ many)

-- ---- statements

-- what is left of a statement
abbrev IsCounted : Program → Option plain_stmt.Stmt → Type 0
IsCounted p None = Unit {0}
IsCounted p (Some stmt) = counts.is_stmt (erased p) stmt ≡ true

kept_counted : (p : Program) (o : Option plain_stmt.Stmt) (others : plain_stmt.Stmts) → IsCounted p o → counts.are_stmts (erased p) others ≡ true → counts.are_stmts (erased p) (kept o others) ≡ true
kept_counted p None others h k = k
kept_counted p (Some stmt) others h k = joined _ _ h k

mutual
  stmt_counted : (stmt : Stmt) (setting : Setting) → is_stmt setting stmt ≡ true → IsCounted setting.program (erase_stmt setting.program stmt)
  stmt_counted (Block at body) setting is = stmts_counted body setting is
  stmt_counted (Var at variables update) setting is =
      let inner = over_locals setting (setting.locals ++ variable_types variables) in
      update_counted inner update (three (are_numbered (length setting.locals) (variable_numbers variables)) (list_all (is_type setting.program) (variable_types variables)) (may_update inner update) is).2
  stmt_counted (Assign at update) setting is = update_counted setting (Some update) is
  stmt_counted (CallOf call) setting is = call_counted setting call is
  stmt_counted (If branches otherwise) setting is =
      let inner = over_locals setting (locals_after_branches setting.locals branches) in
      let is = both (are_branches setting branches) (are_stmts inner otherwise) is in
      joined _ _ (branches_counted branches setting is.0) (stmts_counted otherwise inner is.1)
  stmt_counted (While at guard invariants decreases body) setting is =
      stmts_counted body (inside_loop setting) (four (is_expr setting.program setting.locals types.Bool guard) (are_clauses setting.program setting.locals invariants) (is_measured setting guard decreases) (are_stmts (inside_loop setting) body) is).3
  stmt_counted (Break at) setting is = refl
  stmt_counted (Return at update) setting is = update_counted setting update (return_typed setting update is)
  stmt_counted (Assert at condition) setting is = tt
  stmt_counted (Print at operands) setting is = refl

  stmts_counted : (stmts : Stmts) (setting : Setting) → are_stmts setting stmts ≡ true → counts.are_stmts (erased setting.program) (erase_stmts setting.program stmts) ≡ true
  stmts_counted done setting is = refl
  stmts_counted (next stmt others) setting is =
      let inner = over_locals setting (locals_after setting.locals stmt) in
      let is = both (is_stmt setting stmt) (are_stmts inner others) is in
      kept_counted setting.program (erase_stmt setting.program stmt) (erase_stmts setting.program others) (stmt_counted stmt setting is.0) (stmts_counted others inner is.1)

  branches_counted : (branches : Branches) (setting : Setting) → are_branches setting branches ≡ true → counts.are_branches (erased setting.program) (erase_branches setting.program branches) ≡ true
  branches_counted no_branch setting is = refl
  branches_counted (branch at guard body rest) setting is =
      let inner = over_locals setting (locals_after_all setting.locals body) in
      let is = three (is_expr setting.program setting.locals types.Bool guard) (are_stmts setting body) (are_branches inner rest) is in
      joined _ _ (stmts_counted body setting is.1) (branches_counted rest inner is.2)

-- ---- programs

methods_counted : (p : Program) (decls : List Decl) → list_all (is_decl p) decls ≡ true → list_all (λ (m : plain.Method). counts.are_stmts (erased p) m.body) (map (erase_method p) (methods_among decls)) ≡ true
methods_counted p [] are = refl
methods_counted p (NewtypeDecl newtype ∷ others) are = methods_counted p others (both (is_decl p (NewtypeDecl newtype)) (list_all (is_decl p) others) are).1
methods_counted p (MethodDecl method ∷ others) are =
    let are = both (is_decl p (MethodDecl method)) (list_all (is_decl p) others) are in
    let is = both (is_method p method) (has_no_ghost method) are.0 in
    let setting : Setting = record { program = p; method = method; locals = types_of method.parameters ++ types_of method.results; in_loop = false } in
    joined _ _ (stmts_counted method.body setting (body_typed p method is.0)) (methods_counted p others are.1)

pub counts_are_kept : CountsAreKept
counts_are_kept program well = methods_counted program program.decls well
