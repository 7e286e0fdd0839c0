-- Statements that elaborate break no rule of types.
use Rattle.std.proofs.Common.{◌≡◌, ◌≢◌, ℕ, suc, ◌+◌, Bool, true, false, List, [], ◌∷◌, length, map, Option, Some, None, refl, sym, ap, subst, ◌∙◌}
use Rattle.std.specs.Prelude.{slice_get}
use Rattle.std.specs.List.{AllByRecursion, list_all, list_any}
use Rattle.df_base.specs.declared.pos.Pos.{Pos}
use Rattle.df_lemmas.proofs.Alls.{all_front, all_back}
use Rattle.df_lang.specs.declared.ty.Ty.{Ty}
use Rattle.df_lang.specs.Expr as typed_expr
use Rattle.df_lang.specs.Stmt as typed
use Rattle.df_ntree.specs.declared.expr.TreeType.{TreeType}
use Rattle.df_ntree.specs.declared.expr.TreeType.TheVariants as trees
use Rattle.df_ntree.specs.declared.file.Local as declared_local
use Rattle.df_ntree.specs.declared.file.ConditionKind.{ConditionKind}
use Rattle.df_ntree.specs.declared.file.ConditionKind.TheVariants as conditions
use Rattle.df_ntree.specs.Expr.{Expr, Call}
use Rattle.df_ntree.specs.ExprSpelling.{IsExpr}
use Rattle.df_ntree.specs.File as file
use Rattle.df_ntree.specs.File.{Clause, Condition, Decreases, PrintOperand, Text, Value, Statement, Nested, Var, Assign, Expression, If, While, Return, Break, Assert, Print, Statements, done, next, Branches, Otherwise, without, otherwise}
use Rattle.df_ntree.specs.FileSpelling as grammar
use Rattle.df_ntree.specs.FileSpelling.{spell_local, spell_clause, spell_statement, spell_statements, spell_branches}
use Rattle.df_ntyping.specs.Environment.{Local, Inferred, Open, Used, Fixed, Environment, Variable_role, fixed_type, local_type, enter, inside_loop, past, declare, behind, locals_in_all, locals_in_branches}
use Rattle.df_ntyping.specs.Places.{beginning_of_first}
use Rattle.df_ntyping.specs.LocalTypes.{are_enough, types_of_locals}
use Rattle.df_ntyping.specs.Node.{Owner, OfLoop}
use Rattle.df_ntyping.specs.ExprNodes.{width, type_nodes, exprs_nodes}
use Rattle.df_ntyping.specs.StatementNodes.{widths, local_widths, clause_widths, sources_nodes, typed_nodes, untyped_nodes, variable_nodes, declared_by, update_nodes, clause_nodes, clauses_nodes, operand_nodes, whole_nodes, statement_nodes, statements_nodes, branches_nodes, otherwise_nodes}
use Rattle.df_ntyping.specs.ExprElaboration.{Elaborates, ElaboratesTruth}
use Rattle.df_ntyping.specs.SideElaboration.{AreSources, AreReturned, types_of_targets}
use Rattle.df_ntyping.specs.StatementElaboration.{as_target, AreVariables, MayUpdate, conditions_of, AreConditions, measures_in, AreMeasures, MayDecrease, AreOperands, IsWhole, IsStatement, AreStatements, AreBranches, IsOtherwise}
use Rattle.df_ntyping.specs.rules.Names.{is_unfixed}
use Rattle.df_ntyping.specs.rules.Loops.{belongs, is_decreases}
use Rattle.df_ntyping.proofs.KnownTypes.{known, known_count}
use Rattle.df_ntyping.proofs.AllNodes.{none, front, only, both}
use Rattle.df_ntyping.proofs.SoundNodes as kinds
use Rattle.df_ntyping.proofs.SoundNodes.{AllSound, sound}
use Rattle.df_ntyping.proofs.DeclaredLocals.{declared_from, declared_are}
use Rattle.df_ntyping.proofs.SoundSides.{expr_sound, condition_sound, call_sound, sources_sound, sources_enough, targets_sound, targets_types}

-- ---- updates

pub update_sound : (env : Environment) (start sign after : ℕ) (pos : Option Pos) (targets : List typed.Target) (values : List Expr) (update : Option typed.Update) → AllByRecursion IsExpr values → MayUpdate env targets values update
    → AllSound (update_nodes env start sign after pos (known (types_of_targets targets)) values)
update_sound env start sign after pos targets [] update g h = none
update_sound env start sign after pos targets (value ∷ values) update g (sources, h, q) =
    both (sources_sound env (suc sign) (types_of_targets targets) (value ∷ values) sources g h)
    (only (sound (kinds.assignment env (length (known (types_of_targets targets))) (value ∷ values) pos (subst (λ (n : ℕ). are_enough env n (value ∷ values) ≡ true) (sym (known_count (types_of_targets targets))) (sources_enough env (types_of_targets targets) (value ∷ values) sources h)))))

-- ---- declared locals

pub type_sound : (env : Environment) (start : ℕ) (ty : TreeType) → AllSound (type_nodes env start ty)
type_sound env start (trees.Basic basic pos) = none
type_sound env start (trees.Named ident) = only (sound (kinds.used_type env ident))

typed_sound : (env : Environment) (start : ℕ) (ty : Option TreeType) → AllSound (typed_nodes env start ty)
typed_sound env start None = none
typed_sound env start (Some ty) = type_sound env start ty

-- where a type is known it is fixed
known_fixed : (inferred : Option Inferred) (ty : Ty) → fixed_type inferred ≡ Some ty → is_unfixed inferred ≡ false
known_fixed (Some (Fixed own)) ty p = refl
known_fixed (Some Open) ty p = absurd cc
known_fixed (Some Used) ty p = absurd cc
known_fixed None ty p = absurd cc

untyped_sound : (env : Environment) (start : ℕ) (local : declared_local.Local) (values : List Expr) (ty : Option TreeType) (own : Ty) → local.ty ≡ ty → local_type env env.next ≡ Some own → AllSound (untyped_nodes env start local values)
untyped_sound env start local values (Some ty) own p k = rw p none
untyped_sound env start local [] None own p k = rw p (only (sound (kinds.untyped env env.next local.name (known_fixed (slice_get env.types env.next) own k))))
untyped_sound env start local (value ∷ values) None own p k = rw p none

variables_sound : (env : Environment) (start : ℕ) (values : List Expr) (locals : List declared_local.Local) (variables : List typed.Variable) → AreVariables env env.next locals variables → AllSound (variable_nodes env start values locals)
variables_sound env start values [] variables h = none
variables_sound env start values (local ∷ others) variables (ty, rest, is, hs, q) =
    let next_env = declare env Variable_role local.name.name in
    front (sound (kinds.new_name env _ local.name))
    (both (both (untyped_sound env start local values local.ty ty refl is) (typed_sound env (start + 2) local.ty))
    (variables_sound next_env (start + length (spell_local local) + 1) values others rest (moved env next_env (suc env.next) others rest refl hs))) where
      -- in an environment with the same types
      moved : (one other : Environment) (number : ℕ) (all : List declared_local.Local) (vs : List typed.Variable) → other.types ≡ one.types → AreVariables one number all vs → AreVariables other number all vs
      moved one other number [] vs e h = h
      moved one other number (x ∷ xs) vs e (own, more, known_own, k, r) = (own, more, rw e known_own, moved one other (suc number) xs more e k, r)

declared_types : (env : Environment) (number : ℕ) (locals : List declared_local.Local) (variables : List typed.Variable) → AreVariables env number locals variables
    → types_of_locals env (declared_from number locals) ≡ known (types_of_targets (map as_target variables))
declared_types env number [] variables h = rw h refl
declared_types env number (local ∷ others) variables (ty, rest, is, hs, q) = rw (q, is, declared_types env (suc number) others rest hs) refl

pub variables_types : (env : Environment) (locals : List declared_local.Local) (variables : List typed.Variable) → AreVariables env env.next locals variables
    → types_of_locals env (declared_by env locals) ≡ known (types_of_targets (map as_target variables))
variables_types env locals variables h =
    ap (λ (xs : List Local). types_of_locals env xs) (declared_are env locals) ∙ declared_types env env.next locals variables h

pub returned_types : (env : Environment) (pos : Pos) (results : List Local) (targets : List typed.Target) → AreReturned env pos results targets → types_of_locals env results ≡ known (types_of_targets targets)
returned_types env pos [] targets h = rw h refl
returned_types env pos (result ∷ others) targets (ty, rest, is, hs, q) = rw (q, is, returned_types env pos others rest hs) refl

returned_count : (env : Environment) (pos : Pos) (results : List Local) (targets : List typed.Target) → AreReturned env pos results targets → length results ≡ length (types_of_targets targets)
returned_count env pos [] targets h = rw h refl
returned_count env pos (result ∷ others) targets (ty, rest, is, hs, q) = rw q (ap suc (returned_count env pos others rest hs))

-- ---- clauses

abbrev pub IsTyped : Environment → Expr → Type 0
IsTyped env e = (ty : Ty) × (t : typed_expr.Expr) × Elaborates env None e ty t

abbrev pub IsTrueOrFalse : Environment → Expr → Type 0
IsTrueOrFalse env e = (t : typed_expr.Expr) × ElaboratesTruth env e t

pub all_conditions : (env : Environment) (es : List Expr) (clauses : List typed.Clause) → AreConditions env es clauses → AllByRecursion (IsTrueOrFalse env) es
all_conditions env [] clauses h = tt
all_conditions env (e ∷ others) clauses (pos, t, rest, begins, h, hs, q) = ((t, h), all_conditions env others rest hs)

all_measures : (env : Environment) (es : List Expr) (measures : List typed.Measure) → AreMeasures env es measures → AllByRecursion (IsTyped env) es
all_measures env [] measures h = tt
all_measures env (e ∷ others) measures (ty, t, rest, h, hs, q) = ((ty, t, h), all_measures env others rest hs)

-- where there is a measure, all are typed
pub given_measures : (env : Environment) (b : Bool) (clauses : List Clause) (decreases : Option (List typed.Measure)) → MayDecrease b env clauses decreases → b ≡ true → AllByRecursion (IsTyped env) (measures_in clauses)
given_measures env false clauses decreases h p = absurd cc
given_measures env true clauses decreases (measures, h, q) p = all_measures env (measures_in clauses) measures h

exprs_sound : (env : Environment) (start : ℕ) (es : List Expr) → AllByRecursion IsExpr es → AllByRecursion (IsTyped env) es → AllSound (exprs_nodes env start es)
exprs_sound env start [] g h = none
exprs_sound env start (e ∷ others) g h = both (expr_sound env None start e h.0.0 h.0.1 g.0 h.0.2) (exprs_sound env (start + width e + 1) others g.1 h.1)

pub condition_clause : (env : Environment) (owner : Owner) (start : ℕ) (kind : ConditionKind) (pos : Pos) (e : Expr) → IsExpr e → belongs owner (Condition kind pos e) ≡ true → IsTrueOrFalse env e
    → AllSound (clause_nodes env owner start (Condition kind pos e))
condition_clause env owner start kind pos e g b h = both (condition_sound env (suc start) e h.0 g h.1) (only (sound (kinds.clause_of env owner (Condition kind pos e) b)))

pub measure_clause : (env : Environment) (owner : Owner) (start : ℕ) (pos : Pos) (values : List Expr) → AllByRecursion IsExpr values → belongs owner (Decreases pos values) ≡ true → AllByRecursion (IsTyped env) values
    → AllSound (clause_nodes env owner start (Decreases pos values))
measure_clause env owner start pos values g b h = both (exprs_sound env (suc start) values g h) (only (sound (kinds.clause_of env owner (Decreases pos values) b)))

loop_clauses : (env : Environment) (start : ℕ) (clauses : List Clause) → AllByRecursion grammar.IsClause clauses → list_all (belongs OfLoop) clauses ≡ true
    → AllByRecursion (IsTrueOrFalse env) (conditions_of conditions.Invariant clauses) → (list_any is_decreases clauses ≡ true → AllByRecursion (IsTyped env) (measures_in clauses)) → AllSound (clauses_nodes env OfLoop start clauses)
loop_clauses env start [] g b h m = none
loop_clauses env start (Condition conditions.Invariant pos e ∷ others) g b h m = both (condition_clause env OfLoop start conditions.Invariant pos e g.0 refl h.0) (loop_clauses env (start + length (spell_clause (Condition conditions.Invariant pos e))) others g.1 b h.1 m)
loop_clauses env start (Condition conditions.Requires pos e ∷ others) g b h m = absurd cc
loop_clauses env start (Condition conditions.Ensures pos e ∷ others) g b h m = absurd cc
loop_clauses env start (Decreases pos values ∷ others) g b h m =
    both (measure_clause env OfLoop start pos values g.0.1 refl (all_front (IsTyped env) values (measures_in others) (m refl)))
    (loop_clauses env (start + length (spell_clause (Decreases pos values))) others g.1 b h (λ p. all_back (IsTyped env) values (measures_in others) (m refl)))

-- ---- operands, wholes

operands_sound : (env : Environment) (start : ℕ) (operands : List PrintOperand) (all : List typed.Operand) → AllByRecursion grammar.IsOperand operands → AreOperands env operands all → AllSound (operand_nodes env start operands)
operands_sound env start [] all g h = none
operands_sound env start (Text characters ∷ others) all g (one, rest, h, hs, q) = operands_sound env (start + 2) others rest g.1 hs
operands_sound env start (Value e ∷ others) all g (one, rest, (ty, t, h, p), hs, q) = both (expr_sound env None start e ty t g.0 h) (operands_sound env (start + width e + 1) others rest g.1 hs)

whole_sound : (env : Environment) (start : ℕ) (e : Expr) (stmt : typed.Stmt) → IsExpr e → IsWhole env e stmt → AllSound (whole_nodes env start e)
whole_sound env start (Call callee arguments) stmt g (signature, call, h, q) = call_sound env start callee arguments signature call g h
whole_sound env start e stmt g h = absurd h

assigned : (env : Environment) (targets : List typed.Target) (values : List Expr) (sources : List typed.Source) → values ≢ [] → AreSources env (types_of_targets targets) values sources
    → MayUpdate env targets values (Some (record { targets = targets; sources = sources }))
assigned env targets [] sources some h = absurd (some refl)
assigned env targets (value ∷ values) sources some h = (sources, h, refl)

return_sound : (env : Environment) (start : ℕ) (pos : Pos) (values : List Expr) (targets : List typed.Target) (update : Option typed.Update) → AllByRecursion IsExpr values → AreReturned env pos env.results targets
    → MayUpdate env targets values update → AllSound (statement_nodes env start (Return pos values))
return_sound env start pos [] targets update g h u = only (sound (kinds.returned env [] pos refl))
return_sound env start pos (value ∷ values) targets update g h (sources, s, q) =
    both (subst (λ (places : List (Option Ty)). AllSound (sources_nodes env (suc start) places (value ∷ values))) (sym (returned_types env pos env.results targets h)) (sources_sound env (suc start) (types_of_targets targets) (value ∷ values) sources g s))
    (only (sound (kinds.returned env (value ∷ values) pos (subst (λ (n : ℕ). are_enough env n (value ∷ values) ≡ true) (sym (returned_count env pos env.results targets h)) (sources_enough env (types_of_targets targets) (value ∷ values) sources s)))))

-- ---- statements

mutual
  pub statement_sound : (env : Environment) (start : ℕ) (s : Statement) (stmt : typed.Stmt) → grammar.IsStatement s → IsStatement env s stmt → AllSound (statement_nodes env start s)
  statement_sound env start (Nested pos body) stmt g (inner, h, q) = statements_sound (enter env) (suc start) body inner g h
  statement_sound env start (Var pos locals values) stmt g (variables, update, h, u, q) =
      both (variables_sound env (suc start) values locals variables h)
      (rw (variables_types env locals variables h) (update_sound env start (start + 1 + local_widths locals) (start + length (spell_statement (Var pos locals values))) (Some pos) (map as_target variables) values update g.1 u))
  statement_sound env start (Assign targets values) stmt g (pos, all, sources, begins, h, hs, q) =
      both (targets_sound env start targets all h)
      (rw (targets_types env targets all h) (update_sound env start (start + widths targets) (start + length (spell_statement (Assign targets values))) (beginning_of_first targets) all values (Some (record { targets = all; sources = sources })) g.1.1 (assigned env all values sources g.1.0 hs)))
  statement_sound env start (Expression value) stmt g h = whole_sound env start value stmt g.0 h
  statement_sound env start (If pos guard opens body others last) stmt g (condition, inner, rest, final, h, b, bs, o, q) =
      let first = past env (locals_in_all body) in
      let opening = start + 1 + width guard in
      let behind_body = opening + 2 + length (spell_statements body) in
      both (both (both (condition_sound env (suc start) guard condition g.0 h) (statements_sound (enter env) (suc opening) body inner g.1 b)) (branches_sound first behind_body others rest g.2 bs))
      (otherwise_sound (past first (locals_in_branches others)) (behind_body + length (spell_branches others)) last final g.3 o)
  statement_sound env start (While pos guard clauses opens body) stmt g (condition, invariants, decreases, inner, h, belong, i, d, measured, b, q) =
      let at_clauses = start + 1 + width guard in
      let opening = at_clauses + clause_widths clauses in
      both (both (both (condition_sound env (suc start) guard condition g.0 h)
      (loop_clauses env at_clauses clauses g.1 belong (all_conditions env (conditions_of conditions.Invariant clauses) invariants i) (given_measures env (list_any is_decreases clauses) clauses decreases d)))
      (statements_sound (inside_loop (enter env)) (suc opening) body inner g.2 b))
      (only (sound (kinds.loop env guard clauses pos (rw measured refl))))
  statement_sound env start (Return pos values) stmt g (targets, update, h, u, q) = return_sound env start pos values targets update g h u
  statement_sound env start (Break pos) stmt g (in_loop, q) = only (sound (kinds.broken env pos in_loop))
  statement_sound env start (Assert pos condition) stmt g (e, h, q) = condition_sound env (suc start) condition e g h
  statement_sound env start (Print pos operands) stmt g (all, h, q) = operands_sound env (suc start) operands all g.1 h

  pub statements_sound : (env : Environment) (start : ℕ) (s : Statements) (stmts : typed.Stmts) → grammar.AreStatements s → AreStatements env s stmts → AllSound (statements_nodes env start s)
  statements_sound env start done stmts g h = none
  statements_sound env start (next statement others) stmts g (one, rest, h, hs, q) = both (statement_sound env start statement one g.0 h) (statements_sound (behind env statement) (start + length (spell_statement statement)) others rest g.1 hs)

  branches_sound : (env : Environment) (start : ℕ) (branches : Branches) (all : typed.Branches) → grammar.AreBranches branches → AreBranches env branches all → AllSound (branches_nodes env start branches)
  branches_sound env start file.end all g h = none
  branches_sound env start (file.more pos guard opens body others) all g (condition, inner, rest, h, b, bs, q) =
      let opening = start + 2 + width guard in
      both (both (condition_sound env (start + 2) guard condition g.0.0 h) (statements_sound (enter env) (suc opening) body inner g.0.1 b))
      (branches_sound (past env (locals_in_all body)) (opening + 2 + length (spell_statements body)) others rest g.1 bs)

  otherwise_sound : (env : Environment) (start : ℕ) (last : Otherwise) (stmts : typed.Stmts) → grammar.IsOtherwise last → IsOtherwise env last stmts → AllSound (otherwise_nodes env start last)
  otherwise_sound env start without stmts g h = none
  otherwise_sound env start (otherwise opens body) stmts g h = statements_sound (enter env) (start + 2) body stmts g h
