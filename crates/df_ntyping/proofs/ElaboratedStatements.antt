-- Statements that break nothing elaborate, where all locals have types.
use Rattle.std.proofs.Common.{◌≡◌, ◌≢◌, ℕ, suc, ◌+◌, ◌<◌, ◌≤◌, Bool, true, false, ◌||◌, List, [], ◌∷◌, ◌++◌, length, map, Option, Some, None, refl, sym, ap, subst, ◌∙◌, arith}
use Rattle.std.proofs.lemmas.List.{length-map}
use Rattle.std.specs.Prelude.{slice_get}
use Rattle.std.specs.List.{AllByRecursion, list_all, list_any}
use Rattle.df_base.specs.declared.pos.Pos.{Pos}
use Rattle.df_lemmas.proofs.Alls.{all_joined}
use Rattle.df_lang.specs.declared.ty.Ty.{Ty}
use Rattle.df_lang.specs.Stmt as typed
use Rattle.df_ntree.specs.declared.file.Local as declared_local
use Rattle.df_ntree.specs.declared.file.ConditionKind.TheVariants as conditions
use Rattle.df_ntree.specs.Expr.{Expr, Call}
use Rattle.df_ntree.specs.ExprSpelling.{IsExpr}
use Rattle.df_ntree.specs.File as file
use Rattle.df_ntree.specs.File.{Clause, Condition, Decreases, PrintOperand, Text, Value, Statement, Nested, Var, Assign, Expression, If, While, Return, Break, Assert, Print, Statements, done, next, Branches, Otherwise, without, otherwise}
use Rattle.df_ntree.specs.FileSpelling as grammar
use Rattle.df_ntree.specs.FileSpelling.{spell_clause, spell_statement, spell_statements, spell_branches}
use Rattle.df_ntyping.specs.Table.{Table}
use Rattle.df_ntyping.specs.Environment.{Local, Inferred, Environment, fixed_type, enter, inside_loop, past, local_type, behind, locals_in, locals_in_all, locals_in_branches, locals_in_otherwise}
use Rattle.df_ntyping.specs.Places.{beginning_of_first}
use Rattle.df_ntyping.specs.LocalTypes.{are_enough, types_of_locals}
use Rattle.df_ntyping.specs.Node.{Owner, OfLoop}
use Rattle.df_ntyping.specs.Rule.{Typing, Calls, Assigned, Returned, Broken, Clauses}
use Rattle.df_ntyping.specs.rules.Assignments.{gives_all}
use Rattle.df_ntyping.specs.rules.Loops.{belongs, is_decreases, has_measure}
use Rattle.df_ntyping.specs.ExprNodes.{width, expr_nodes, condition_nodes, exprs_nodes}
use Rattle.df_ntyping.specs.StatementNodes.{widths, local_widths, clause_widths, all_places, sources_nodes, variable_nodes, update_nodes, clause_nodes, clauses_nodes, operand_nodes, whole_nodes, statement_nodes, statements_nodes, branches_nodes, otherwise_nodes}
use Rattle.df_ntyping.specs.SideElaboration.{AreSources, AreReturned, types_of_targets}
use Rattle.df_ntyping.specs.StatementElaboration.{as_target, AreVariables, MayUpdate, conditions_of, AreConditions, measures_in, AreMeasures, MayDecrease, AreOperands, IsWhole, IsStatement, AreStatements, AreBranches, IsOtherwise}
use Rattle.df_ntyping.proofs.Standing.{begins}
use Rattle.df_ntyping.proofs.StatementStands.{first_begins}
use Rattle.df_ntyping.proofs.KnownTypes.{known, known_count}
use Rattle.df_ntyping.proofs.SameBehind.{same_behind, next_behind}
use Rattle.df_ntyping.proofs.ScopedLocals.{enter_scoped, past_scoped, behind_scoped}
use Rattle.df_ntyping.proofs.ClauseExprs.{condition_exprs}
use Rattle.df_ntyping.proofs.AllNodes.{head, left, right}
use Rattle.df_ntyping.proofs.SoundSides.{targets_types}
use Rattle.df_ntyping.proofs.SoundStatements.{IsTyped, IsTrueOrFalse, variables_types, returned_types}
use Rattle.df_ntyping.proofs.FaultlessNodes.{AllFaultless, TableKnown, holds_of}
use Rattle.df_ntyping.proofs.ElaboratedSides.{IsReady, expr_elaborates, truth_elaborates, call_elaborates, sources_elaborate, targets_elaborate}

-- ---- where statements go on

results_later : (count higher : ℕ) (results : List Local) → count ≤ higher → AllByRecursion (λ (result : Local). result.number < count) results → AllByRecursion (λ (result : Local). result.number < higher) results
results_later count higher [] p h = tt
results_later count higher (result ∷ others) p h = let q : result.number < count = h.0 in (omega arith, results_later count higher others p h.1)

pub enter_ready : (env : Environment) → IsReady env → IsReady (enter env)
enter_ready env r = record { table = r.table; scoped = enter_scoped 0 env r.scoped; typed_locals = r.typed_locals; room = r.room; result_locals = r.result_locals }

pub loop_ready : (env : Environment) → IsReady env → IsReady (inside_loop env)
loop_ready env r = record { table = r.table; scoped = record { outer = r.scoped.outer; inner = r.scoped.inner }; typed_locals = r.typed_locals; room = r.room; result_locals = r.result_locals }

pub past_ready : (env : Environment) (count : ℕ) → env.next + count ≤ length env.types → IsReady env → IsReady (past env count)
past_ready env count room r = record {
  table = r.table;
  scoped = past_scoped 0 env count r.scoped;
  typed_locals = r.typed_locals;
  room = room;
  result_locals = results_later env.next (env.next + count) env.results (omega arith) r.result_locals;
}

pub behind_ready : (env : Environment) (s : Statement) → env.next + locals_in s ≤ length env.types → IsReady env → IsReady (behind env s)
behind_ready env s room r =
    let same = same_behind env s in
    let number = next_behind env s in
    record {
      table = subst (λ (table : Table). TableKnown table) (sym same.table) r.table;
      scoped = behind_scoped 0 env s (omega arith) r.scoped;
      typed_locals = subst (λ (types : List Inferred). (k : ℕ) → k < length types → (ty : Ty) × (fixed_type (slice_get types k) ≡ Some ty)) (sym same.types) r.typed_locals;
      room = rw (same.types, number) room;
      result_locals = rw (same.results, number) (results_later env.next (env.next + locals_in s) env.results (omega arith) r.result_locals);
    }

-- ---- updates

given_sources : (env : Environment) (start sign after : ℕ) (pos : Option Pos) (targets : List typed.Target) (value : Expr) (values : List Expr) → IsReady env → AllByRecursion IsExpr (value ∷ values)
    → AllFaultless (update_nodes env start sign after pos (known (types_of_targets targets)) (value ∷ values)) → (sources : List typed.Source) × AreSources env (types_of_targets targets) (value ∷ values) sources
given_sources env start sign after pos targets value values r g h =
    let places = known (types_of_targets targets) in
    let sources = sources_nodes env (suc sign) places (value ∷ values) in
    let enough : are_enough env (length places) (value ∷ values) ≡ true = holds_of (are_enough env (length places) (value ∷ values)) (λ b. (head (right sources _ h)).holds (Typing Assigned) b) in
    sources_elaborate env (suc sign) (types_of_targets targets) (value ∷ values) r g (left sources _ h) (subst (λ (n : ℕ). are_enough env n (value ∷ values) ≡ true) (known_count (types_of_targets targets)) enough)

update_elaborates : (env : Environment) (start sign after : ℕ) (pos : Option Pos) (targets : List typed.Target) (values : List Expr) → IsReady env → AllByRecursion IsExpr values
    → AllFaultless (update_nodes env start sign after pos (known (types_of_targets targets)) values) → (update : Option typed.Update) × MayUpdate env targets values update
update_elaborates env start sign after pos targets [] r g h = (None, refl)
update_elaborates env start sign after pos targets (value ∷ values) r g h =
    let (sources, are) = given_sources env start sign after pos targets value values r g h in (Some (record { targets = targets; sources = sources }), (sources, are, refl))

assigned_sources : (env : Environment) (start sign after : ℕ) (pos : Option Pos) (targets : List typed.Target) (values : List Expr) → values ≢ [] → IsReady env → AllByRecursion IsExpr values
    → AllFaultless (update_nodes env start sign after pos (known (types_of_targets targets)) values) → (sources : List typed.Source) × AreSources env (types_of_targets targets) values sources
assigned_sources env start sign after pos targets [] some r g h = absurd (some refl)
assigned_sources env start sign after pos targets (value ∷ values) some r g h = given_sources env start sign after pos targets value values r g h

variables_elaborate : (env : Environment) (number : ℕ) (locals : List declared_local.Local) → IsReady env → number + length locals ≤ length env.types → (variables : List typed.Variable) × AreVariables env number locals variables
variables_elaborate env number [] r room = ([], refl)
variables_elaborate env number (local ∷ others) r room =
    let (ty, is) = r.typed_locals number (omega arith) in
    let (rest, are) = variables_elaborate env (suc number) others r (omega arith) in
    (record { name = local.name.name; pos = local.name.pos; ty = ty; is_ghost = false; local = number } ∷ rest, (ty, rest, is, are, refl))

returned_elaborate : (env : Environment) (pos : Pos) (results : List Local) → IsReady env → AllByRecursion (λ (result : Local). result.number < env.next) results → (targets : List typed.Target) × AreReturned env pos results targets
returned_elaborate env pos [] r h = ([], refl)
returned_elaborate env pos (result ∷ others) r h =
    let below : result.number < env.next = h.0 in
    let room = r.room in
    let (ty, is) = r.typed_locals result.number (omega arith) in
    let (rest, are) = returned_elaborate env pos others r h.1 in
    (record { local = result.number; name = result.name; pos = pos; ty = ty } ∷ rest, (ty, rest, is, are, refl))

-- ---- clauses

pub conditions_elaborate : (env : Environment) (es : List Expr) → AllByRecursion IsExpr es → AllByRecursion (IsTrueOrFalse env) es → (clauses : List typed.Clause) × AreConditions env es clauses
conditions_elaborate env [] g h = ([], refl)
conditions_elaborate env (e ∷ others) g h =
    let (pos, p) = begins e g.0 in
    let (rest, are) = conditions_elaborate env others g.1 h.1 in
    (record { pos = pos; condition = h.0.0 } ∷ rest, (pos, h.0.0, rest, p, h.0.1, are, refl))

measures_elaborate : (env : Environment) (es : List Expr) → AllByRecursion (IsTyped env) es → (measures : List typed.Measure) × AreMeasures env es measures
measures_elaborate env [] h = ([], refl)
measures_elaborate env (e ∷ others) h =
    let (rest, are) = measures_elaborate env others h.1 in
    (record { ty = h.0.0; value = h.0.1 } ∷ rest, (h.0.0, h.0.1, rest, h.0.2, are, refl))

pub decreases_elaborate : (env : Environment) (b : Bool) (clauses : List Clause) → AllByRecursion (IsTyped env) (measures_in clauses) → (decreases : Option (List typed.Measure)) × MayDecrease b env clauses decreases
decreases_elaborate env false clauses h = (None, refl)
decreases_elaborate env true clauses h = let (measures, are) = measures_elaborate env (measures_in clauses) h in (Some measures, (measures, are, refl))

pub exprs_typed : (env : Environment) (start : ℕ) (es : List Expr) → IsReady env → AllByRecursion IsExpr es → AllFaultless (exprs_nodes env start es) → AllByRecursion (IsTyped env) es
exprs_typed env start [] r g h = tt
exprs_typed env start (e ∷ others) r g h =
    let here = expr_nodes env start e in
    (expr_elaborates env start e r g.0 (left here _ h), exprs_typed env (start + width e + 1) others r g.1 (right here _ h))

-- a clause that is broken by nothing belongs there
pub belongs_there : (env : Environment) (owner : Owner) (start : ℕ) (clause : Clause) → AllFaultless (clause_nodes env owner start clause) → belongs owner clause ≡ true
belongs_there env owner start (Condition kind pos e) h = holds_of (belongs owner (Condition kind pos e)) (λ b. (head (right (condition_nodes env (suc start) e) _ h)).holds (Typing Clauses) b)
belongs_there env owner start (Decreases pos values) h = holds_of (belongs owner (Decreases pos values)) (λ b. (head (right (exprs_nodes env (suc start) values) _ h)).holds (Typing Clauses) b)

pub record HasClauses (env : Environment) (clauses : List Clause) : Type 0 where
  pub belong : list_all (belongs OfLoop) clauses ≡ true
  pub invariants : AllByRecursion (IsTrueOrFalse env) (conditions_of conditions.Invariant clauses)
  pub measures : AllByRecursion (IsTyped env) (measures_in clauses)

clauses_there : (env : Environment) (start : ℕ) (clauses : List Clause) → IsReady env → AllByRecursion grammar.IsClause clauses → AllFaultless (clauses_nodes env OfLoop start clauses) → HasClauses env clauses
clauses_there env start [] r g h = record { belong = refl; invariants = tt; measures = tt }
clauses_there env start (Condition conditions.Invariant pos e ∷ others) r g h =
    let clause = Condition conditions.Invariant pos e in
    let here = clause_nodes env OfLoop start clause in
    let rest = clauses_there env (start + length (spell_clause clause)) others r g.1 (right here _ h) in
    record { belong = rest.belong; invariants = (truth_elaborates env (suc start) e r g.0 (left (condition_nodes env (suc start) e) _ (left here _ h)), rest.invariants); measures = rest.measures }
clauses_there env start (Condition conditions.Requires pos e ∷ others) r g h =
    let here = clause_nodes env OfLoop start (Condition conditions.Requires pos e) in
    absurd (let b : false ≡ true = belongs_there env OfLoop start (Condition conditions.Requires pos e) (left here _ h) in cc)
clauses_there env start (Condition conditions.Ensures pos e ∷ others) r g h =
    let here = clause_nodes env OfLoop start (Condition conditions.Ensures pos e) in
    absurd (let b : false ≡ true = belongs_there env OfLoop start (Condition conditions.Ensures pos e) (left here _ h) in cc)
clauses_there env start (Decreases pos values ∷ others) r g h =
    let clause = Decreases pos values in
    let here = clause_nodes env OfLoop start clause in
    let rest = clauses_there env (start + length (spell_clause clause)) others r g.1 (right here _ h) in
    record {
      belong = rest.belong;
      invariants = rest.invariants;
      measures = all_joined (IsTyped env) values (measures_in others) (exprs_typed env (suc start) values r g.0.1 (left (exprs_nodes env (suc start) values) _ (left here _ h))) rest.measures;
    }

-- ---- operands, wholes

operands_elaborate : (env : Environment) (start : ℕ) (operands : List PrintOperand) → IsReady env → AllByRecursion grammar.IsOperand operands → AllFaultless (operand_nodes env start operands) → (all : List typed.Operand) × AreOperands env operands all
operands_elaborate env start [] r g h = ([], refl)
operands_elaborate env start (Text characters ∷ others) r g h =
    let (rest, are) = operands_elaborate env (start + 2) others r g.1 h in (typed.Text characters ∷ rest, (typed.Text characters, rest, refl, are, refl))
operands_elaborate env start (Value e ∷ others) r g h =
    let here = expr_nodes env start e in
    let (ty, t, k) = expr_elaborates env start e r g.0 (left here _ h) in
    let (rest, are) = operands_elaborate env (start + width e + 1) others r g.1 (right here _ h) in
    (typed.Value ty t ∷ rest, (typed.Value ty t, rest, (ty, t, k, refl), are, refl))

whole_elaborates : (env : Environment) (start : ℕ) (e : Expr) → IsReady env → IsExpr e → AllFaultless (whole_nodes env start e) → (stmt : typed.Stmt) × IsWhole env e stmt
whole_elaborates env start (Call callee arguments) r g h = let c = call_elaborates env start callee arguments r g h in (typed.CallOf c.call, (c.signature, c.call, c.is_call, refl))
whole_elaborates env start e r g h = absurd ((head (right (expr_nodes env start e) _ h)).holds (Typing Calls) refl)

var_elaborates : (env : Environment) (start : ℕ) (pos : Pos) (locals : List declared_local.Local) (values : List Expr) → IsReady env → AllByRecursion IsExpr values → env.next + length locals ≤ length env.types
    → AllFaultless (statement_nodes env start (Var pos locals values)) → (stmt : typed.Stmt) × IsStatement env (Var pos locals values) stmt
var_elaborates env start pos locals values r g room h =
    let sign = start + 1 + local_widths locals in
    let after = start + length (spell_statement (Var pos locals values)) in
    let (variables, are) = variables_elaborate env env.next locals r room in
    let (update, may) = update_elaborates env start sign after (Some pos) (map as_target variables) values r g
    (subst (λ (places : List (Option Ty)). AllFaultless (update_nodes env start sign after (Some pos) places values)) (variables_types env locals variables are) (right (variable_nodes env (suc start) values locals) _ h)) in
    (typed.Var pos variables update, (variables, update, are, may, refl))

assign_elaborates : (env : Environment) (start : ℕ) (targets values : List Expr) (pos : Pos) → beginning_of_first targets ≡ Some pos → IsReady env → values ≢ [] → AllByRecursion IsExpr values
    → AllFaultless (statement_nodes env start (Assign targets values)) → (stmt : typed.Stmt) × IsStatement env (Assign targets values) stmt
assign_elaborates env start targets values pos p r some g h =
    let sign = start + widths targets in
    let after = start + length (spell_statement (Assign targets values)) in
    let (all, are) = targets_elaborate env start targets r (left (all_places env start targets) _ h) in
    let (sources, given) = assigned_sources env start sign after (beginning_of_first targets) all values some r g
    (subst (λ (places : List (Option Ty)). AllFaultless (update_nodes env start sign after (beginning_of_first targets) places values)) (targets_types env targets all are) (right (all_places env start targets) _ h)) in
    (typed.Assign pos (record { targets = all; sources = sources }), (pos, all, sources, p, are, given, refl))

return_elaborates : (env : Environment) (start : ℕ) (pos : Pos) (values : List Expr) → IsReady env → AllByRecursion IsExpr values → AllFaultless (statement_nodes env start (Return pos values)) → (stmt : typed.Stmt) × IsStatement env (Return pos values) stmt
return_elaborates env start pos [] r g h = let (targets, are) = returned_elaborate env pos env.results r r.result_locals in (typed.Return pos None, (targets, None, are, refl, refl))
return_elaborates env start pos (value ∷ values) r g h =
    let (targets, are) = returned_elaborate env pos env.results r r.result_locals in
    let places = types_of_locals env env.results in
    let same = returned_types env pos env.results targets are in
    let sources = sources_nodes env (suc start) places (value ∷ values) in
    let all : gives_all env (value ∷ values) ≡ true = holds_of (gives_all env (value ∷ values)) (λ b. (head (right sources _ h)).holds (Typing Returned) b) in
    let size : length env.results ≡ length (types_of_targets targets) = sym (length-map env.results (λ (local : Local). local_type env local.number)) ∙ ap (λ (xs : List (Option Ty)). length xs) same ∙ known_count (types_of_targets targets) in
    let (given, is) = sources_elaborate env (suc start) (types_of_targets targets) (value ∷ values) r g
    (subst (λ (ps : List (Option Ty)). AllFaultless (sources_nodes env (suc start) ps (value ∷ values))) same (left sources _ h))
    (subst (λ (n : ℕ). are_enough env n (value ∷ values) ≡ true) size all) in
    (typed.Return pos (Some (record { targets = targets; sources = given })), (targets, Some (record { targets = targets; sources = given }), are, (given, is, refl), refl))

-- ---- statements

mutual
  statement_elaborates : (env : Environment) (start : ℕ) (s : Statement) → IsReady env → grammar.IsStatement s → env.next + locals_in s ≤ length env.types → AllFaultless (statement_nodes env start s) → (stmt : typed.Stmt) × IsStatement env s stmt
  statement_elaborates env start (Nested pos body) r g room h = let (inner, are) = statements_elaborate (enter env) (suc start) body (enter_ready env r) g room h in (typed.Block pos inner, (inner, are, refl))
  statement_elaborates env start (Var pos locals values) r g room h = var_elaborates env start pos locals values r g.1 room h
  statement_elaborates env start (Assign targets values) r g room h = let (pos, p) = first_begins targets g.0.0 g.0.1 in assign_elaborates env start targets values pos p r g.1.0 g.1.1 h
  statement_elaborates env start (Expression value) r g room h = whole_elaborates env start value r g.0 h
  statement_elaborates env start (If pos guard opens body others last) r g room h =
      let opening = start + 1 + width guard in
      let behind_body = opening + 2 + length (spell_statements body) in
      let count = locals_in_all body in
      let more = locals_in_branches others in
      let first = past env count in
      let second = past first more in
      let guard_nodes = condition_nodes env (suc start) guard in
      let body_nodes = statements_nodes (enter env) (suc opening) body in
      let others_nodes = branches_nodes first behind_body others in
      let three = left (guard_nodes ++ body_nodes ++ others_nodes) _ h in
      let two = left (guard_nodes ++ body_nodes) _ three in
      let (condition, k) = truth_elaborates env (suc start) guard r g.0 (left guard_nodes _ two) in
      let (inner, b) = statements_elaborate (enter env) (suc opening) body (enter_ready env r) g.1 (omega arith) (right guard_nodes _ two) in
      let (rest, bs) = branches_elaborate first behind_body others (past_ready env count (omega arith) r) g.2 (omega arith) (right (guard_nodes ++ body_nodes) _ three) in
      let (final, o) = otherwise_elaborates second (behind_body + length (spell_branches others)) last (past_ready first more (omega arith) (past_ready env count (omega arith) r)) g.3 (omega arith)
      (right (guard_nodes ++ body_nodes ++ others_nodes) _ h) in
      (typed.If (typed.branch pos condition inner rest) final, (condition, inner, rest, final, k, b, bs, o, refl))
  statement_elaborates env start (While pos guard clauses opens body) r g room h =
      let at_clauses = start + 1 + width guard in
      let opening = at_clauses + clause_widths clauses in
      let guard_nodes = condition_nodes env (suc start) guard in
      let the_clauses = clauses_nodes env OfLoop at_clauses clauses in
      let body_nodes = statements_nodes (inside_loop (enter env)) (suc opening) body in
      let three = left (guard_nodes ++ the_clauses ++ body_nodes) _ h in
      let two = left (guard_nodes ++ the_clauses) _ three in
      let (condition, k) = truth_elaborates env (suc start) guard r g.0 (left guard_nodes _ two) in
      let c = clauses_there env at_clauses clauses r g.1 (right guard_nodes _ two) in
      let (invariants, i) = conditions_elaborate env (conditions_of conditions.Invariant clauses) (condition_exprs conditions.Invariant clauses g.1) c.invariants in
      let (decreases, d) = decreases_elaborate env (list_any is_decreases clauses) clauses c.measures in
      let measured : (list_any is_decreases clauses || has_measure env guard) ≡ true =
      holds_of (list_any is_decreases clauses || has_measure env guard) (λ b. (head (right (guard_nodes ++ the_clauses ++ body_nodes) _ h)).holds (Typing Clauses) b) in
      let (inner, b) = statements_elaborate (inside_loop (enter env)) (suc opening) body (loop_ready (enter env) (enter_ready env r)) g.2 room (right (guard_nodes ++ the_clauses) _ three) in
      (typed.While pos condition invariants decreases inner, (condition, invariants, decreases, inner, k, c.belong, i, d, measured, b, refl))
  statement_elaborates env start (Return pos values) r g room h = return_elaborates env start pos values r g h
  statement_elaborates env start (Break pos) r g room h = (typed.Break pos, (holds_of env.in_loop (λ b. (head h).holds (Typing Broken) b), refl))
  statement_elaborates env start (Assert pos condition) r g room h = let (e, k) = truth_elaborates env (suc start) condition r g h in (typed.Assert pos e, (e, k, refl))
  statement_elaborates env start (Print pos operands) r g room h = let (all, are) = operands_elaborate env (suc start) operands r g.1 h in (typed.Print pos all, (all, are, refl))

  pub statements_elaborate : (env : Environment) (start : ℕ) (s : Statements) → IsReady env → grammar.AreStatements s → env.next + locals_in_all s ≤ length env.types → AllFaultless (statements_nodes env start s)
      → (stmts : typed.Stmts) × AreStatements env s stmts
  statements_elaborate env start done r g room h = (typed.done, refl)
  statements_elaborate env start (next statement others) r g room h =
      let here = statement_nodes env start statement in
      let same = same_behind env statement in
      let number = next_behind env statement in
      let (one, is) = statement_elaborates env start statement r g.0 (omega arith) (left here _ h) in
      let (rest, are) = statements_elaborate (behind env statement) (start + length (spell_statement statement)) others (behind_ready env statement (omega arith) r) g.1 (rw (same.types) (omega (arith, number))) (right here _ h) in
      (typed.next one rest, (one, rest, is, are, refl))

  branches_elaborate : (env : Environment) (start : ℕ) (branches : Branches) → IsReady env → grammar.AreBranches branches → env.next + locals_in_branches branches ≤ length env.types → AllFaultless (branches_nodes env start branches)
      → (all : typed.Branches) × AreBranches env branches all
  branches_elaborate env start file.end r g room h = (typed.no_branch, refl)
  branches_elaborate env start (file.more pos guard opens body others) r g room h =
      let opening = start + 2 + width guard in
      let count = locals_in_all body in
      let guard_nodes = condition_nodes env (start + 2) guard in
      let body_nodes = statements_nodes (enter env) (suc opening) body in
      let two = left (guard_nodes ++ body_nodes) _ h in
      let (condition, k) = truth_elaborates env (start + 2) guard r g.0.0 (left guard_nodes _ two) in
      let (inner, b) = statements_elaborate (enter env) (suc opening) body (enter_ready env r) g.0.1 (omega arith) (right guard_nodes _ two) in
      let (rest, bs) = branches_elaborate (past env count) (opening + 2 + length (spell_statements body)) others (past_ready env count (omega arith) r) g.1 (omega arith) (right (guard_nodes ++ body_nodes) _ h) in
      (typed.branch pos condition inner rest, (condition, inner, rest, k, b, bs, refl))

  otherwise_elaborates : (env : Environment) (start : ℕ) (last : Otherwise) → IsReady env → grammar.IsOtherwise last → env.next + locals_in_otherwise last ≤ length env.types → AllFaultless (otherwise_nodes env start last)
      → (stmts : typed.Stmts) × IsOtherwise env last stmts
  otherwise_elaborates env start without r g room h = (typed.done, refl)
  otherwise_elaborates env start (otherwise opens body) r g room h = statements_elaborate (enter env) (start + 2) body (enter_ready env r) g room h
