-- What statements elaborate to is well typed.
use Rattle.std.proofs.Common.{◌≡◌, ℕ, suc, ◌+◌, ◌≤◌, Bool, true, false, ◌||◌, List, [], ◌∷◌, ◌++◌, length, map, Option, Some, None, refl, sym, subst, ◌∙◌, arith}
use Rattle.std.specs.Prelude.{nat_lt, slice_get}
use Rattle.std.specs.List.{AllByRecursion, list_all, list_any, flat_map}
use Rattle.std.proofs.lemmas.Bool.{and_parts}
use Rattle.std.proofs.lemmas.Option.{same_Some}
use Rattle.df_lemmas.proofs.Numbers.{equal_self}
use Rattle.df_base.specs.declared.pos.Pos.{Pos}
use Rattle.df_tok.specs.declared.word.Word.TheVariants as words
use Rattle.df_tok.specs.declared.sign.Sign.TheVariants as signs
use Rattle.df_lang.specs.declared.ty.Ty.{Ty}
use Rattle.df_lang.specs.declared.ty.Ty.TheVariants as types
use Rattle.df_lang.specs.Typing as lang
use Rattle.df_lang.specs.Typing.{Setting, over_locals, are_same_types, is_type, is_expr, are_clauses, are_measures, is_operand, is_target, are_numbered, variable_numbers, variable_types, locals_after, locals_after_all, locals_after_branches, gives_results, is_return, is_measured, is_stmt, are_stmts, are_branches}
use Rattle.df_lang.specs.Expr as typed_expr
use Rattle.df_lang.specs.Stmt as typed
use Rattle.df_lang.specs.Program.{types_of}
use Rattle.df_ntree.specs.declared.file.Local as declared_local
use Rattle.df_ntree.specs.declared.file.ConditionKind.TheVariants as conditions
use Rattle.df_ntree.specs.Spelling.{Piece, a_sign, a_word, word_there, separated}
use Rattle.df_ntree.specs.Expr.{Expr, Call}
use Rattle.df_ntree.specs.ExprSpelling.{spell, IsExpr}
use Rattle.df_ntree.specs.File as file
use Rattle.df_ntree.specs.File.{Clause, PrintOperand, Text, Value, Statement, Nested, Var, Assign, Expression, If, While, Return, Break, Assert, Print, Statements, done, next, Branches, Otherwise, without, otherwise}
use Rattle.df_ntree.specs.FileSpelling as grammar
use Rattle.df_ntree.specs.FileSpelling.{braces, spell_local, spell_values, spell_operand, spell_clause, spell_statement, spell_statements, spell_branches, spell_otherwise}
use Rattle.df_ntyping.specs.Environment.{Local, Inferred, Environment, fixed_type, enter, inside_loop, past, behind, locals_in, locals_in_all, locals_in_branches}
use Rattle.df_ntyping.specs.Literals.{AreInRange}
use Rattle.df_ntyping.specs.rules.Loops.{is_decreases, has_measure}
use Rattle.df_ntyping.specs.ExprElaboration.{Elaborates}
use Rattle.df_ntyping.specs.SideElaboration.{AreReturned, types_of_targets}
use Rattle.df_ntyping.specs.StatementElaboration.{as_target, AreVariables, MayUpdate, conditions_of, AreConditions, measures_in, AreMeasures, MayDecrease, IsOperand, AreOperands, IsWhole, IsStatement, AreStatements, AreBranches, IsOtherwise}
use Rattle.df_ntyping.proofs.TypedIsWellTyped.{all_left, all_right}
use Rattle.df_ntyping.proofs.KnownTypes.{AllKnown}
use Rattle.df_ntyping.proofs.SameBehind.{same_behind, next_behind, table_behind}
use Rattle.df_ntyping.proofs.ScopedLocals.{past_scoped, behind_scoped}
use Rattle.df_ntyping.proofs.Ranges.{InRange, AllInRange, inside_braces, separated_parts, values_parts, call_parts, conditions_parts, measures_parts}
use Rattle.df_ntyping.proofs.ClauseExprs.{measure_exprs}
use Rattle.df_ntyping.proofs.GuardMeasures.{guard_measured}
use Rattle.df_ntyping.proofs.Fits.{HaveTypes, type_at, enter_fits, expr_good, expr_type, truth_good}
use Rattle.df_ntyping.proofs.CoveredLocals.{Covered, variables_covered, statement_covered, statements_covered, branches_covered}
use Rattle.df_ntyping.proofs.SidesWellTyped.{FitsIn, AreTypes, same_types_self, call_good, AreGoodTargets, no_target, one_target, targets_good, sources_good, update_good, may_update_good}

-- ---- clauses, operands

pub conditions_good : (setting : Setting) (env : Environment) (es : List Expr) (clauses : List typed.Clause) → FitsIn setting env → AllInRange es → AreConditions env es clauses → are_clauses setting.program setting.locals clauses ≡ true
conditions_good setting env [] clauses f r h = rw h refl
conditions_good setting env (e ∷ others) clauses f r (pos, condition, rest, begins, h, hs, q) =
    rw (q, truth_good setting.program setting.method env setting.locals e condition f r.0 h) (conditions_good setting env others rest f r.1 hs)

measures_good : (setting : Setting) (env : Environment) (es : List Expr) (measures : List typed.Measure) → FitsIn setting env → AllByRecursion IsExpr es → AllInRange es → AreMeasures env es measures
    → are_measures setting.program setting.locals (Some measures) ≡ true
measures_good setting env [] measures f g r h = rw h refl
measures_good setting env (e ∷ others) measures f g r (ty, value, rest, h, hs, q) =
    rw (q, expr_type setting.program setting.method env setting.locals e ty value f g.0 h, expr_good setting.program setting.method env setting.locals e ty value f r.0 h) (measures_good setting env others rest f g.1 r.1 hs)

pub decreases_good : (setting : Setting) (env : Environment) (b : Bool) (clauses : List Clause) (decreases : Option (List typed.Measure)) → FitsIn setting env → AllByRecursion grammar.IsClause clauses → AreInRange (flat_map spell_clause clauses)
    → MayDecrease b env clauses decreases → are_measures setting.program setting.locals decreases ≡ true
decreases_good setting env false clauses decreases f g r h = rw h refl
decreases_good setting env true clauses decreases f g r (measures, h, q) = rw q (measures_good setting env (measures_in clauses) measures f (measure_exprs clauses g) (measures_parts clauses r) h)

operand_good : (setting : Setting) (env : Environment) (operand : PrintOperand) (one : typed.Operand) → FitsIn setting env → grammar.IsOperand operand → AreInRange (spell_operand operand) → IsOperand env operand one → is_operand setting one ≡ true
operand_good setting env (Text characters) one f g r h = rw h (and_parts (list_all (λ (code : ℕ). nat_lt code 128) characters) true r).0
operand_good setting env (Value e) one f g r (ty, value, h, q) =
    rw (q, expr_type setting.program setting.method env setting.locals e ty value f g h, expr_good setting.program setting.method env setting.locals e ty value f r h) refl

operands_good : (setting : Setting) (env : Environment) (operands : List PrintOperand) (all : List typed.Operand) → FitsIn setting env → AllByRecursion grammar.IsOperand operands → AllByRecursion (λ (x : PrintOperand). AreInRange (spell_operand x)) operands
    → AreOperands env operands all → list_all (is_operand setting) all ≡ true
operands_good setting env [] all f g r h = rw h refl
operands_good setting env (operand ∷ others) all f g r (one, rest, h, hs, q) = rw (q, operand_good setting env operand one f g.0 r.0 h) (operands_good setting env others rest f g.1 r.1 hs)

-- ---- declared locals

variables_numbered : (env : Environment) (number : ℕ) (declared : List declared_local.Local) (variables : List typed.Variable) → AreVariables env number declared variables → are_numbered number (variable_numbers variables) ≡ true
variables_numbered env number [] variables h = rw h refl
variables_numbered env number (local ∷ others) variables (ty, rest, is, hs, q) = rw (q, equal_self number) (variables_numbered env (suc number) others rest hs)

variables_typed : (setting : Setting) (env : Environment) (number : ℕ) (declared : List declared_local.Local) (variables : List typed.Variable) → AllKnown setting.program env.types → AreVariables env number declared variables → AreTypes setting.program (variable_types variables)
variables_typed setting env number [] variables k h = rw h refl
variables_typed setting env number (local ∷ others) variables k (ty, rest, is, hs, q) = rw (q, type_at setting.program env.types number ty k is) (variables_typed setting env (suc number) others rest k hs)

-- as targets, in a setting that has them
variables_good : (setting : Setting) (env : Environment) (number : ℕ) (declared : List declared_local.Local) (variables : List typed.Variable) → AllKnown setting.program env.types → HaveTypes env.types setting.locals
    → length setting.method.parameters ≤ number → number + length declared ≤ length setting.locals → AreVariables env number declared variables → AreGoodTargets setting (map as_target variables)
variables_good setting env number [] variables k same least wide h = subst (λ (vs : List typed.Variable). AreGoodTargets setting (map as_target vs)) (sym h) no_target
variables_good setting env number (local ∷ others) variables k same least wide (ty, rest, is, hs, q) =
    subst (λ (vs : List typed.Variable). AreGoodTargets setting (map as_target vs)) (sym q)
    (one_target setting env.types (record { local = number; name = local.name.name; pos = local.name.pos; ty = ty }) (map as_target rest) same least (omega arith) is (type_at setting.program env.types number ty k is)
    (variables_good setting env (suc number) others rest k same (omega arith) (omega arith) hs))

-- ---- results

-- their numbers follow each other, and their types are these
abbrev pub Returns : List Inferred → ℕ → List Local → List Ty → Type 0
Returns all number [] [] = Unit {0}
Returns all number [] (ty ∷ tys) = ⊥
Returns all number (result ∷ others) [] = ⊥
Returns all number (result ∷ others) (ty ∷ tys) = (result.number ≡ number) × (fixed_type (slice_get all number) ≡ Some ty) × Returns all (suc number) others tys

record AreGoodResults (setting : Setting) (number : ℕ) (tys : List Ty) (all : List typed.Target) : Type 0 where
  good : AreGoodTargets setting all
  numbered : are_numbered number (map (λ (target : typed.Target). target.local) all) ≡ true
  same : types_of_targets all ≡ tys

results_good : (setting : Setting) (env : Environment) (pos : Pos) (number : ℕ) (results : List Local) (tys : List Ty) (all : List typed.Target) → AllKnown setting.program env.types → HaveTypes env.types setting.locals
    → length setting.method.parameters ≤ number → number + length results ≤ length setting.locals → Returns env.types number results tys → AreReturned env pos results all → AreGoodResults setting number tys all
results_good setting env pos number [] [] all k same least wide r h =
    subst (λ (ts : List typed.Target). AreGoodResults setting number [] ts) (sym h) (record { good = no_target; numbered = refl; same = refl })
results_good setting env pos number [] (ty ∷ tys) all k same least wide r h = absurd r
results_good setting env pos number (result ∷ others) [] all k same least wide r h = absurd r
results_good setting env pos number (result ∷ others) (ty ∷ tys) all k same least wide (at, is, rest) (own, targets, known, hs, q) =
    let there : fixed_type (slice_get env.types number) ≡ Some own = subst (λ (n : ℕ). fixed_type (slice_get env.types n) ≡ Some own) at known in
    let e : own ≡ ty = same_Some own ty (sym there ∙ is) in
    let more = results_good setting env pos (suc number) others tys targets k same (omega arith) (omega arith) rest hs in
    let one : typed.Target = record { local = result.number; name = result.name; pos = pos; ty = own } in
    let good : AreGoodResults setting number (ty ∷ tys) (one ∷ targets) = record {
      good = one_target setting env.types one targets same (omega (arith, at)) (omega (arith, at)) known (type_at setting.program env.types result.number own k known) more.good;
      numbered = rw (at, equal_self number) more.numbered;
      same = rw (e, more.same) refl;
    } in
    subst (λ (ts : List typed.Target). AreGoodResults setting number (ty ∷ tys) ts) (sym q) good

-- ---- where a statement stands

pub record Inside (setting : Setting) (env : Environment) : Type 0 where
  pub fits : FitsIn setting env
  pub least : length setting.method.parameters ≤ env.next
  pub next : env.next ≡ length setting.locals
  pub in_loop : env.in_loop ≡ setting.in_loop
  pub returns : Returns env.types (length setting.method.parameters) env.results (types_of setting.method.results)
  pub behind_results : length setting.method.parameters + length env.results ≤ env.next

enter_inside : (setting : Setting) (env : Environment) → Inside setting env → Inside setting (enter env)
enter_inside setting env h = record {
  fits = enter_fits setting.program setting.method env setting.locals h.fits;
  least = h.least;
  next = h.next;
  in_loop = h.in_loop;
  returns = h.returns;
  behind_results = h.behind_results;
}

loop_inside : (setting : Setting) (env : Environment) → Inside setting env → Inside (lang.inside_loop setting) (inside_loop env)
loop_inside setting env h = record {
  fits = record { table = h.fits.table; types = h.fits.types; scoped = record { outer = h.fits.scoped.outer; inner = h.fits.scoped.inner }; wide = h.fits.wide; same = h.fits.same };
  least = h.least;
  next = h.next;
  in_loop = refl;
  returns = h.returns;
  behind_results = h.behind_results;
}

past_inside : (setting : Setting) (env : Environment) (count : ℕ) (after : List Ty) → Inside setting env → Covered env.types setting.locals after count → Inside (over_locals setting after) (past env count)
past_inside setting env count after h c =
    let least = h.least in
    let results = h.behind_results in
    record {
      fits = record {
        table = h.fits.table;
        types = h.fits.types;
        scoped = past_scoped (length setting.method.parameters) env count h.fits.scoped;
        wide = omega (arith, h.next, c.size);
        same = c.same;
      };
      least = omega arith;
      next = omega (arith, h.next, c.size);
      in_loop = h.in_loop;
      returns = h.returns;
      behind_results = omega arith;
    }

behind_inside : (setting : Setting) (env : Environment) (s : Statement) (after : List Ty) → Inside setting env → Covered env.types setting.locals after (locals_in s) → Inside (over_locals setting after) (behind env s)
behind_inside setting env s after h c =
    let same = same_behind env s in
    let next = next_behind env s in
    let least = h.least in
    let results = h.behind_results in
    record {
      fits = record {
        table = table_behind setting.program env s h.fits.table;
        types = subst (λ (all : List Inferred). AllKnown setting.program all) (sym same.types) h.fits.types;
        scoped = behind_scoped (length setting.method.parameters) env s h.least h.fits.scoped;
        wide = omega (arith, h.next, c.size, next);
        same = subst (λ (all : List Inferred). HaveTypes all after) (sym same.types) c.same;
      };
      least = omega (arith, next);
      next = omega (arith, h.next, c.size, next);
      in_loop = same.in_loop ∙ h.in_loop;
      returns = rw (same.types, same.results) h.returns;
      behind_results = rw (same.results) (omega (arith, next));
    }

-- ---- statements

whole_good : (setting : Setting) (env : Environment) (e : Expr) (stmt : typed.Stmt) → Inside setting env → InRange e → IsWhole env e stmt → is_stmt setting stmt ≡ true
whole_good setting env (Call callee arguments) stmt i r (signature, call, h, q) = rw q (call_good setting env callee arguments signature call i.fits (call_parts callee arguments r) h).good
whole_good setting env e stmt i r h = absurd h

-- with all its locals
var_fits : (setting : Setting) (env : Environment) (after : List Ty) (count : ℕ) → Inside setting env → Covered env.types setting.locals after count → FitsIn (over_locals setting after) env
var_fits setting env after count h c = record { table = h.fits.table; types = h.fits.types; scoped = h.fits.scoped; wide = omega (arith, h.next, c.size); same = c.same }

var_good : (setting : Setting) (env : Environment) (pos : Pos) (declared : List declared_local.Local) (values : List Expr) (variables : List typed.Variable) (update : Option typed.Update) → Inside setting env → AllInRange values
    → AreVariables env env.next declared variables → MayUpdate env (map as_target variables) values update → is_stmt setting (typed.Var pos variables update) ≡ true
var_good setting env pos declared values variables update h r vs u =
    let after = setting.locals ++ variable_types variables in
    let c = variables_covered env env.next declared variables setting.locals vs h.next h.fits.same in
    let f = var_fits setting env after (length declared) h c in
    let targets = variables_good (over_locals setting after) env env.next declared variables h.fits.types c.same h.least (omega (arith, h.next, c.size)) vs in
    rw (← h.next, variables_numbered env env.next declared variables vs, variables_typed setting env env.next declared variables h.fits.types vs)
    (may_update_good (over_locals setting after) env (map as_target variables) values update f targets r u)

return_good : (setting : Setting) (env : Environment) (pos : Pos) (values : List Expr) (targets : List typed.Target) (update : Option typed.Update) → Inside setting env → AllInRange values
    → AreReturned env pos env.results targets → MayUpdate env targets values update → is_return setting update ≡ true
return_good setting env pos [] targets update h r ts u = rw u refl
return_good setting env pos (value ∷ values) targets update h r ts (sources, m, q) =
    let wide = h.behind_results in
    let all = results_good setting env pos (length setting.method.parameters) env.results (types_of setting.method.results) targets h.fits.types h.fits.same (omega arith) (omega (arith, h.next)) h.returns ts in
    let given = sources_good setting env (types_of_targets targets) (value ∷ values) sources h.fits all.good.valid r m in
    rw (q, update_good setting targets sources all.good given, all.numbered, all.same) (same_types_self (types_of setting.method.results))

measured : (setting : Setting) (env : Environment) (guard : Expr) (condition : typed_expr.Expr) (b : Bool) (clauses : List Clause) (decreases : Option (List typed.Measure)) → FitsIn setting env → IsExpr guard → AllByRecursion grammar.IsClause clauses
    → AreInRange (flat_map spell_clause clauses) → Elaborates env None guard types.Bool condition → MayDecrease b env clauses decreases → (b || has_measure env guard) ≡ true → is_measured setting condition decreases ≡ true
measured setting env guard condition false clauses decreases f g gs r h d m = rw d (guard_measured env None guard condition g m h)
measured setting env guard condition true clauses decreases f g gs r h (measures, d, q) m = rw q (measures_good setting env (measures_in clauses) measures f (measure_exprs clauses gs) (measures_parts clauses r) d)

mutual
  pub stmt_good : (setting : Setting) (env : Environment) (s : Statement) (stmt : typed.Stmt) → Inside setting env → grammar.IsStatement s → AreInRange (spell_statement s) → IsStatement env s stmt → is_stmt setting stmt ≡ true
  stmt_good setting env (Nested pos body) stmt i g r (inner, h, q) = rw q (stmts_good setting (enter env) body inner (enter_inside setting env i) g (inside_braces pos (spell_statements body) r) h)
  stmt_good setting env (Var pos declared values) stmt i g r (variables, update, h, u, q) =
      rw q (var_good setting env pos declared values variables update i
      (values_parts values (all_left (spell_values values) _ (all_right (separated spell_local declared) (spell_values values ++ a_sign signs.Semicolon ∷ []) r))) h u)
  stmt_good setting env (Assign targets values) stmt i g r (pos, all, sources, begins, h, hs, q) =
      let good = targets_good setting env targets all i.fits h in
      let in_range = values_parts values (all_left (spell_values values) _ (all_right (separated spell targets) (spell_values values ++ a_sign signs.Semicolon ∷ []) r)) in
      rw q (update_good setting all sources good (sources_good setting env (types_of_targets all) values sources i.fits good.valid in_range hs))
  stmt_good setting env (Expression value) stmt i g r h = whole_good setting env value stmt i (all_left (spell value) _ r) h
  stmt_good setting env (If pos guard opens body others last) stmt i g r (condition, inner, rest, final, h, b, bs, o, q) =
      let locals = setting.locals in
      let front = spell guard ++ braces opens (spell_statements body) in
      let back = spell_branches others ++ spell_otherwise last in
      let guard_range = all_left (spell guard) (braces opens (spell_statements body)) (all_left front back r) in
      let body_range = inside_braces opens (spell_statements body) (all_right (spell guard) (braces opens (spell_statements body)) (all_left front back r)) in
      let first = past env (locals_in_all body) in
      let inside = statements_covered (enter env) body inner locals b i.next i.fits.same in
      let at_first = past_inside setting env (locals_in_all body) (locals_after_all locals inner) i inside in
      let more = branches_covered first others rest (locals_after_all locals inner) bs at_first.next at_first.fits.same in
      let at_last = past_inside (over_locals setting (locals_after_all locals inner)) first (locals_in_branches others) (locals_after_branches (locals_after_all locals inner) rest) at_first more in
      rw (
        q,
        truth_good setting.program setting.method env setting.locals guard condition i.fits guard_range h,
        stmts_good setting (enter env) body inner (enter_inside setting env i) g.1 body_range b,
        branches_good (over_locals setting (locals_after_all locals inner)) first others rest at_first g.2 (all_left (spell_branches others) (spell_otherwise last) (all_right front back r)) bs,
      ) (otherwise_good (over_locals setting (locals_after_branches (locals_after_all locals inner) rest)) (past first (locals_in_branches others)) last final at_last g.3
      (all_right (spell_branches others) (spell_otherwise last) (all_right front back r)) o)
  stmt_good setting env (While pos guard clauses opens body) stmt i g r (condition, invariants, decreases, inner, h, belong, is, d, m, b, q) =
      let behind_guard = all_right (spell guard) (flat_map spell_clause clauses ++ braces opens (spell_statements body)) r in
      let guard_range = all_left (spell guard) (flat_map spell_clause clauses ++ braces opens (spell_statements body)) r in
      let clause_range = all_left (flat_map spell_clause clauses) (braces opens (spell_statements body)) behind_guard in
      let body_range = inside_braces opens (spell_statements body) (all_right (flat_map spell_clause clauses) (braces opens (spell_statements body)) behind_guard) in
      rw (
        q,
        truth_good setting.program setting.method env setting.locals guard condition i.fits guard_range h,
        conditions_good setting env (conditions_of conditions.Invariant clauses) invariants i.fits (conditions_parts conditions.Invariant clauses clause_range) is,
        measured setting env guard condition (list_any is_decreases clauses) clauses decreases i.fits g.0 g.1 clause_range h d m,
      ) (stmts_good (lang.inside_loop setting) (inside_loop (enter env)) body inner (loop_inside setting (enter env) (enter_inside setting env i)) g.2 body_range b)
  stmt_good setting env (Return pos values) stmt i g r (targets, update, h, u, q) = rw q (return_good setting env pos values targets update i (separated_parts spell values (all_left (separated spell values) _ r)) h u)
  stmt_good setting env (Break pos) stmt i g r (loop, q) = rw q (sym i.in_loop ∙ loop)
  stmt_good setting env (Assert pos condition) stmt i g r (e, h, q) = rw q (truth_good setting.program setting.method env setting.locals condition e i.fits (all_left (spell condition) _ r) h)
  stmt_good setting env (Print pos operands) stmt i g r (all, h, q) = rw q (operands_good setting env operands all i.fits g.1 (separated_parts spell_operand operands (all_left (separated spell_operand operands) _ r)) h)

  pub stmts_good : (setting : Setting) (env : Environment) (s : Statements) (stmts : typed.Stmts) → Inside setting env → grammar.AreStatements s → AreInRange (spell_statements s) → AreStatements env s stmts → are_stmts setting stmts ≡ true
  stmts_good setting env done stmts i g r h = rw h refl
  stmts_good setting env (next statement others) stmts i g r (one, rest, h, hs, q) =
      let after = locals_after setting.locals one in
      let c = statement_covered env statement one setting.locals h i.next i.fits.same in
      rw (q, stmt_good setting env statement one i g.0 (all_left (spell_statement statement) (spell_statements others) r) h)
      (stmts_good (over_locals setting after) (behind env statement) others rest (behind_inside setting env statement after i c) g.1 (all_right (spell_statement statement) (spell_statements others) r) hs)

  branches_good : (setting : Setting) (env : Environment) (branches : Branches) (all : typed.Branches) → Inside setting env → grammar.AreBranches branches → AreInRange (spell_branches branches) → AreBranches env branches all → are_branches setting all ≡ true
  branches_good setting env file.end all i g r h = rw h refl
  branches_good setting env (file.more pos guard opens body others) all i g r (condition, inner, rest, h, b, bs, q) =
      let locals = setting.locals in
      let front : List Piece = a_word words.Else ∷ word_there words.If pos ∷ (spell guard ++ braces opens (spell_statements body)) in
      let this = all_left front (spell_branches others) r in
      let guard_range = all_left (spell guard) (braces opens (spell_statements body)) this in
      let body_range = inside_braces opens (spell_statements body) (all_right (spell guard) (braces opens (spell_statements body)) this) in
      let inside = statements_covered (enter env) body inner locals b i.next i.fits.same in
      rw (
        q,
        truth_good setting.program setting.method env setting.locals guard condition i.fits guard_range h,
        stmts_good setting (enter env) body inner (enter_inside setting env i) g.0.1 body_range b,
      ) (branches_good (over_locals setting (locals_after_all locals inner)) (past env (locals_in_all body)) others rest (past_inside setting env (locals_in_all body) (locals_after_all locals inner) i inside) g.1
      (all_right front (spell_branches others) r) bs)

  otherwise_good : (setting : Setting) (env : Environment) (last : Otherwise) (stmts : typed.Stmts) → Inside setting env → grammar.IsOtherwise last → AreInRange (spell_otherwise last) → IsOtherwise env last stmts → are_stmts setting stmts ≡ true
  otherwise_good setting env without stmts i g r h = rw h refl
  otherwise_good setting env (otherwise opens body) stmts i g r h = stmts_good setting (enter env) body stmts (enter_inside setting env i) g (inside_braces opens (spell_statements body) r) h
