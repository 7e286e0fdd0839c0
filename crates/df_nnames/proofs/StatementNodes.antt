-- What the rules of names tell of the nodes of a statement, in the order of the text.
use Rattle.std.proofs.Common.{◌≡◌, ℕ, suc, ◌+◌, true, List, [], ◌∷◌, ◌++◌, length, Option, Some, None, refl, sym, ap, ◌∙◌}
use Rattle.std.specs.List.{flat_map}
use Rattle.std.proofs.lemmas.List.{append-nil, map-append}
use Rattle.df_base.specs.declared.pos.Pos.{Pos}
use Rattle.df_base.specs.declared.refusal.Refusal.{Refusal}
use Rattle.df_lang.specs.declared.ty.Ty.{Ty}
use Rattle.df_ntree.specs.declared.expr.TreeType.{TreeType}
use Rattle.df_ntree.specs.declared.file.Local as declared_local
use Rattle.df_ntree.specs.Expr.{Expr, Name, Call}
use Rattle.df_ntree.specs.File.{Clause, Condition, Decreases, PrintOperand, Text, Value, Statement, Nested, Var, Assign, Expression, If, While, Return, Break, Assert, Print, Statements, done, next, Branches, end, more, Otherwise, without, otherwise}
use Rattle.df_ntree.specs.FileSpelling.{spell_statement, spell_statements, spell_branches, spell_clause, spell_local}
use Rattle.df_ntyping.specs.Table.{Table}
use Rattle.df_ntyping.specs.Environment.{Environment, Role, Variable_role, Local, enter, inside_loop, past, declare, declare_variables, names_of, behind, locals_in, locals_in_all, locals_in_branches}
use Rattle.df_ntyping.specs.Places.{beginning_of_first}
use Rattle.df_ntyping.specs.LocalTypes.{place_types, types_of_locals, results_of_call}
use Rattle.df_ntyping.specs.Node as nodes
use Rattle.df_ntyping.specs.Node.{Owner, Occurrence}
use Rattle.df_ntyping.specs.ExprNodes.{width, occurrence, token_at, expr_nodes, value_nodes, condition_nodes, exprs_nodes, call_nodes, first_place, other_places}
use Rattle.df_ntyping.specs.StatementNodes.{place_nodes, all_places, source_nodes, sources_apart, sources_nodes, widths, typed_nodes, untyped_nodes, variable_nodes, declared_by, local_widths, update_nodes, clause_nodes, clauses_nodes, clause_widths, operand_nodes, whole_nodes, statement_nodes, statements_nodes, branches_nodes, otherwise_nodes}
use Rattle.df_nnames.specs.Scope as scopes
use Rattle.df_nnames.specs.Scope.{Scope}
use Rattle.df_nnames.specs.Globals.{Globals, globals_of}
use Rattle.df_nnames.specs.Faults.{expr_faults, exprs_faults, operand_faults, clause_faults, new_faults, written_faults, local_faults, with_locals, scope_after, statement_faults, statements_faults, branches_faults, otherwise_faults}
use Rattle.df_nnames.proofs.ExprNodes.{told, scope_of, told_append, told_ended, told_three, told_four, both, type_same, expr_same, whole_call_same}

-- ---- scopes

pub scope_declared : (env : Environment) (role : Role) (name : ℕ) → scope_of (declare env role name) ≡ scopes.declare (scope_of env) name
scope_declared env role name =
    λ i. record { outer = names_of env.outer; inner = map-append (λ (local : Local). local.name) env.inner (record { name = name; number = env.next; role = role } ∷ []) i }

pub scope_entered : (env : Environment) → scope_of (enter env) ≡ scopes.enter (scope_of env)
scope_entered env = λ i. record { outer = map-append (λ (local : Local). local.name) env.outer env.inner i; inner = [] }

scope_of_variables : (env : Environment) (locals : List declared_local.Local) → scope_of (declare_variables env locals) ≡ with_locals (scope_of env) locals
scope_of_variables env [] = refl
scope_of_variables env (local ∷ others) =
    scope_of_variables (declare env Variable_role local.name.name) others ∙ ap (λ (scope : Scope). with_locals scope others) (scope_declared env Variable_role local.name.name)

table_of_variables : (env : Environment) (locals : List declared_local.Local) → (declare_variables env locals).table ≡ env.table
table_of_variables env [] = refl
table_of_variables env (local ∷ others) = table_of_variables (declare env Variable_role local.name.name) others

scope_behind : (env : Environment) (s : Statement) → scope_of (behind env s) ≡ scope_after (scope_of env) s
scope_behind env (Var pos locals values) = scope_of_variables env locals
scope_behind env s = refl

table_behind : (env : Environment) (s : Statement) → (behind env s).table ≡ env.table
table_behind env (Var pos locals values) = table_of_variables env locals
table_behind env s = refl

-- ---- whole expressions

-- what is asked of the whole is no name
value_same : (env : Environment) (start : ℕ) (place : Option Ty) (e : Expr) → told true (value_nodes env start place e) ≡ expr_faults (globals_of env.table) (scope_of env) e
value_same env start place e = told_ended true (expr_nodes env start e) (occurrence env (nodes.Value place e) start (start + width e)) refl ∙ expr_same true env start e

condition_same : (env : Environment) (start : ℕ) (e : Expr) → told true (condition_nodes env start e) ≡ expr_faults (globals_of env.table) (scope_of env) e
condition_same env start e = told_ended true (expr_nodes env start e) (occurrence env (nodes.Condition e) start (start + width e)) refl ∙ expr_same true env start e

exprs_same : (env : Environment) (start : ℕ) (es : List Expr) → told true (exprs_nodes env start es) ≡ exprs_faults (globals_of env.table) (scope_of env) es
exprs_same env start [] = refl
exprs_same env start (e ∷ others) =
    told_append true (expr_nodes env start e) (exprs_nodes env (start + width e + 1) others) ∙ both _ _ _ _ (expr_same true env start e) (exprs_same env (start + width e + 1) others)

-- ---- left and right sides

place_same : (env : Environment) (start : ℕ) (e : Expr) → told true (place_nodes env start e) ≡ expr_faults (globals_of env.table) (scope_of env) e
place_same env start (Name ident) = expr_same true env start (Name ident)
place_same env start e = told_ended true (expr_nodes env start e) (occurrence env (nodes.Place e) start (start + width e)) refl ∙ expr_same true env start e

places_same : (env : Environment) (start : ℕ) (es : List Expr) → told true (all_places env start es) ≡ exprs_faults (globals_of env.table) (scope_of env) es
places_same env start [] = refl
places_same env start (e ∷ others) =
    told_append true (place_nodes env start e) (all_places env (start + width e + 1) others) ∙ both _ _ _ _ (place_same env start e) (places_same env (start + width e + 1) others)

source_same : (env : Environment) (start : ℕ) (places : List (Option Ty)) (e : Expr) → told true (source_nodes env start places e) ≡ expr_faults (globals_of env.table) (scope_of env) e
source_same env start places (Call callee arguments) =
    told_ended true (call_nodes env start callee arguments)
    (occurrence env (nodes.Results places (results_of_call env callee) (Call callee arguments)) start (start + width (Call callee arguments))) refl ∙ whole_call_same true env start callee arguments
source_same env start places e = value_same env start (first_place places) e

apart_same : (env : Environment) (start : ℕ) (places : List (Option Ty)) (es : List Expr) → told true (sources_apart env start places es) ≡ exprs_faults (globals_of env.table) (scope_of env) es
apart_same env start places [] = refl
apart_same env start places (e ∷ others) =
    told_append true (source_nodes env start (first_place places ∷ []) e) (sources_apart env (start + width e + 1) (other_places places) others)
    ∙ both _ _ _ _ (source_same env start (first_place places ∷ []) e) (apart_same env (start + width e + 1) (other_places places) others)

sources_same : (env : Environment) (start : ℕ) (places : List (Option Ty)) (es : List Expr) → told true (sources_nodes env start places es) ≡ exprs_faults (globals_of env.table) (scope_of env) es
sources_same env start places [] = refl
sources_same env start places (e ∷ []) = source_same env start places e ∙ sym (append-nil (expr_faults (globals_of env.table) (scope_of env) e))
sources_same env start places (e ∷ other ∷ others) = apart_same env start places (e ∷ other ∷ others)

update_same : (env : Environment) (start sign after : ℕ) (pos : Option Pos) (places : List (Option Ty)) (values : List Expr) → told true (update_nodes env start sign after pos places values) ≡ exprs_faults (globals_of env.table) (scope_of env) values
update_same env start sign after pos places [] = refl
update_same env start sign after pos places (e ∷ others) =
    told_ended true (sources_nodes env (suc sign) places (e ∷ others)) (occurrence env (nodes.Assignment (length places) (e ∷ others) pos) start after) refl ∙ sources_same env (suc sign) places (e ∷ others)

-- ---- declared locals

typed_same : (env : Environment) (start : ℕ) (ty : Option TreeType) → told true (typed_nodes env start ty) ≡ written_faults (globals_of env.table) ty
typed_same env start None = refl
typed_same env start (Some ty) = type_same true env start ty

untyped_none : (env : Environment) (start : ℕ) (local : declared_local.Local) (values : List Expr) (ty : Option TreeType) → local.ty ≡ ty → told true (untyped_nodes env start local values) ≡ []
untyped_none env start local values (Some ty) p = rw p refl
untyped_none env start local [] None p = rw p refl
untyped_none env start local (value ∷ others) None p = rw p refl

variables_same : (env : Environment) (start : ℕ) (values : List Expr) (locals : List declared_local.Local) → told true (variable_nodes env start values locals) ≡ local_faults (globals_of env.table) (scope_of env) locals
variables_same env start values [] = refl
variables_same env start values (local ∷ others) =
    let one = declare_variables env (local ∷ []) in
    let at = start + length (spell_local local) + 1 in
    let typed = typed_nodes env (start + 2) local.ty in
    let rest = variable_nodes one at values others in
    ap (λ (all : List Refusal). new_faults (scope_of env) local.name ++ all)
    (told_three true (untyped_nodes env start local values) typed rest [] _ _ (untyped_none env start local values local.ty refl) (typed_same env (start + 2) local.ty)
    (variables_same one at values others ∙ ap (λ (scope : Scope). local_faults (globals_of env.table) scope others) (scope_declared env Variable_role local.name.name)))

-- ---- clauses, operands

pub clause_same : (env : Environment) (owner : Owner) (start : ℕ) (clause : Clause) → told true (clause_nodes env owner start clause) ≡ clause_faults (globals_of env.table) (scope_of env) clause
clause_same env owner start (Condition kind pos condition) =
    told_ended true (condition_nodes env (suc start) condition) (occurrence env (nodes.ClauseOf owner (Condition kind pos condition)) start (start + length (spell_clause (Condition kind pos condition)))) refl
    ∙ condition_same env (suc start) condition
clause_same env owner start (Decreases pos values) =
    told_ended true (exprs_nodes env (suc start) values) (occurrence env (nodes.ClauseOf owner (Decreases pos values)) start (start + length (spell_clause (Decreases pos values)))) refl ∙ exprs_same env (suc start) values

clauses_same : (env : Environment) (owner : Owner) (start : ℕ) (clauses : List Clause) → told true (clauses_nodes env owner start clauses) ≡ flat_map (clause_faults (globals_of env.table) (scope_of env)) clauses
clauses_same env owner start [] = refl
clauses_same env owner start (clause ∷ others) =
    told_append true (clause_nodes env owner start clause) (clauses_nodes env owner (start + length (spell_clause clause)) others)
    ∙ both _ _ _ _ (clause_same env owner start clause) (clauses_same env owner (start + length (spell_clause clause)) others)

operands_same : (env : Environment) (start : ℕ) (operands : List PrintOperand) → told true (operand_nodes env start operands) ≡ flat_map (operand_faults (globals_of env.table) (scope_of env)) operands
operands_same env start [] = refl
operands_same env start (Text characters ∷ others) = operands_same env (start + 2) others
operands_same env start (Value e ∷ others) =
    told_append true (expr_nodes env start e) (operand_nodes env (start + width e + 1) others) ∙ both _ _ _ _ (expr_same true env start e) (operands_same env (start + width e + 1) others)

whole_same : (env : Environment) (start : ℕ) (e : Expr) → told true (whole_nodes env start e) ≡ expr_faults (globals_of env.table) (scope_of env) e
whole_same env start (Call callee arguments) = whole_call_same true env start callee arguments
whole_same env start e = told_ended true (expr_nodes env start e) (occurrence env (nodes.NoCall e) start (start + width e)) refl ∙ expr_same true env start e

-- ---- statements

-- in a scope of its own
inside_same : (env : Environment) (body : Statements) → ((start : ℕ) → told true (statements_nodes (enter env) start body) ≡ statements_faults (globals_of env.table) (scope_of (enter env)) body) → (start : ℕ)
    → told true (statements_nodes (enter env) start body) ≡ statements_faults (globals_of env.table) (scopes.enter (scope_of env)) body
inside_same env body h start = h start ∙ ap (λ (scope : Scope). statements_faults (globals_of env.table) scope body) (scope_entered env)

mutual
  pub statement_same : (env : Environment) (start : ℕ) (s : Statement) → told true (statement_nodes env start s) ≡ statement_faults (globals_of env.table) (scope_of env) s
  statement_same env start (Nested pos body) = inside_same env body (λ at. statements_same (enter env) at body) (suc start)
  statement_same env start (Var pos locals values) =
      let sign = start + 1 + local_widths locals in
      let after = start + length (spell_statement (Var pos locals values)) in
      let places = types_of_locals env (declared_by env locals) in
      told_append true (variable_nodes env (suc start) values locals) (update_nodes env start sign after (Some pos) places values)
      ∙ both _ _ _ _ (variables_same env (suc start) values locals) (update_same env start sign after (Some pos) places values)
  statement_same env start (Assign targets values) =
      let sign = start + widths targets in
      let after = start + length (spell_statement (Assign targets values)) in
      told_append true (all_places env start targets) (update_nodes env start sign after (beginning_of_first targets) (place_types env targets) values)
      ∙ both _ _ _ _ (places_same env start targets) (update_same env start sign after (beginning_of_first targets) (place_types env targets) values)
  statement_same env start (Expression value) = whole_same env start value
  statement_same env start (If pos guard opens body others last) =
      let opening = start + 1 + width guard in
      let behind_body = opening + 2 + length (spell_statements body) in
      let first = past env (locals_in_all body) in
      let second = past first (locals_in_branches others) in
      let at_last = behind_body + length (spell_branches others) in
      let tail = otherwise_nodes second at_last last in
      let middle = branches_nodes first behind_body others in
      told_four true (condition_nodes env (suc start) guard) (statements_nodes (enter env) (suc opening) body) middle tail _ _ _ _
      (condition_same env (suc start) guard) (inside_same env body (λ at. statements_same (enter env) at body) (suc opening)) (branches_same first behind_body others) (otherwise_same second at_last last)
  statement_same env start (While pos guard clauses opens body) =
      let at_clauses = start + 1 + width guard in
      let opening = at_clauses + clause_widths clauses in
      let inner = statements_nodes (inside_loop (enter env)) (suc opening) body in
      let whole = occurrence env (nodes.Loop guard clauses pos) start (start + length (spell_statement (While pos guard clauses opens body))) in
      told_ended true (condition_nodes env (suc start) guard ++ clauses_nodes env Owner.OfLoop at_clauses clauses ++ inner) whole refl
      ∙ told_three true (condition_nodes env (suc start) guard) (clauses_nodes env Owner.OfLoop at_clauses clauses) inner _ _ _
      (condition_same env (suc start) guard) (clauses_same env Owner.OfLoop at_clauses clauses) (inside_same (inside_loop env) body (λ at. statements_same (inside_loop (enter env)) at body) (suc opening))
  statement_same env start (Return pos values) =
      told_ended true (sources_nodes env (suc start) (types_of_locals env env.results) values) (occurrence env (nodes.Return values pos) start (start + length (spell_statement (Return pos values)))) refl
      ∙ sources_same env (suc start) (types_of_locals env env.results) values
  statement_same env start (Break pos) = refl
  statement_same env start (Assert pos condition) = condition_same env (suc start) condition
  statement_same env start (Print pos operands) = operands_same env (suc start) operands

  pub statements_same : (env : Environment) (start : ℕ) (all : Statements) → told true (statements_nodes env start all) ≡ statements_faults (globals_of env.table) (scope_of env) all
  statements_same env start done = refl
  statements_same env start (next s others) =
      let at = start + length (spell_statement s) in
      told_append true (statement_nodes env start s) (statements_nodes (behind env s) at others)
      ∙ both _ _ _ _ (statement_same env start s)
      (statements_same (behind env s) at others ∙ (λ i. statements_faults (globals_of (table_behind env s i)) (scope_behind env s i) others))

  branches_same : (env : Environment) (start : ℕ) (all : Branches) → told true (branches_nodes env start all) ≡ branches_faults (globals_of env.table) (scope_of env) all
  branches_same env start end = refl
  branches_same env start (more pos guard opens body others) =
      let opening = start + 2 + width guard in
      let after = opening + 2 + length (spell_statements body) in
      let rest = branches_nodes (past env (locals_in_all body)) after others in
      told_three true (condition_nodes env (start + 2) guard) (statements_nodes (enter env) (suc opening) body) rest _ _ _
      (condition_same env (start + 2) guard) (inside_same env body (λ at. statements_same (enter env) at body) (suc opening)) (branches_same (past env (locals_in_all body)) after others)

  otherwise_same : (env : Environment) (start : ℕ) (last : Otherwise) → told true (otherwise_nodes env start last) ≡ otherwise_faults (globals_of env.table) (scope_of env) last
  otherwise_same env start without = refl
  otherwise_same env start (otherwise opens body) = inside_same env body (λ at. statements_same (enter env) at body) (start + 2)
