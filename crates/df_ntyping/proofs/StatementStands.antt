-- Each node of a statement of the grammar stands somewhere.
use Rattle.std.proofs.Common.{◌≡◌, ◌≢◌, ℕ, suc, ◌+◌, List, [], ◌∷◌, length, Option, Some, None, refl}
use Rattle.std.specs.List.{AllByRecursion}
use Rattle.df_base.specs.declared.pos.Pos.{Pos}
use Rattle.df_lang.specs.declared.ty.Ty.{Ty}
use Rattle.df_ntree.specs.declared.expr.TreeType.{TreeType}
use Rattle.df_ntree.specs.declared.file.Local as declared_local
use Rattle.df_ntree.specs.Expr.{Expr, Name, Call, Arguments}
use Rattle.df_ntree.specs.ExprSpelling.{IsExpr}
use Rattle.df_ntree.specs.File as file
use Rattle.df_ntree.specs.File.{Clause, Condition, Decreases, PrintOperand, Text, Value, Statement, Nested, Var, Assign, Expression, If, While, Return, Break, Assert, Print, Statements, done, next, Branches, Otherwise, without, otherwise}
use Rattle.df_ntree.specs.FileSpelling.{spell_local, spell_clause, spell_statement, spell_statements, spell_branches, IsPrimary, IsOperand, IsClause, IsStatement, AreStatements, AreBranches, IsOtherwise}
use Rattle.df_ntyping.specs.Environment.{Environment, enter, inside_loop, past, declare_variables, behind, locals_in_all, locals_in_branches}
use Rattle.df_ntyping.specs.Places.{beginning_of_first}
use Rattle.df_ntyping.specs.LocalTypes.{place_types, types_of_locals}
use Rattle.df_ntyping.specs.Node.{Owner}
use Rattle.df_ntyping.specs.ExprNodes.{width, first_place, other_places, value_nodes, condition_nodes, exprs_nodes, call_nodes}
use Rattle.df_ntyping.specs.StatementNodes.{clause_widths, widths, local_widths, declared_by, place_nodes, all_places, source_nodes, sources_apart, sources_nodes, update_nodes, typed_nodes, untyped_nodes, variable_nodes, clause_nodes, clauses_nodes, operand_nodes, whole_nodes, statement_nodes, statements_nodes, branches_nodes, otherwise_nodes}
use Rattle.df_ntyping.proofs.AllNodes.{Alls, none, front, only, both}
use Rattle.df_ntyping.proofs.Standing.{begins, stands}
use Rattle.df_ntyping.proofs.ExprStands.{Stands, kept, type_stands, callee_stands, expr_stands, arguments_stand}

-- ---- whole expressions

value_stands : (env : Environment) (start : ℕ) (place : Option Ty) (e : Expr) → IsExpr e → Alls Stands (value_nodes env start place e)
value_stands env start place e g = let (at, p) = stands e g in both (expr_stands env start e g) (only (kept at p))

pub condition_stands : (env : Environment) (start : ℕ) (e : Expr) → IsExpr e → Alls Stands (condition_nodes env start e)
condition_stands env start e g = let (at, p) = stands e g in both (expr_stands env start e g) (only (kept at p))

exprs_stand : (env : Environment) (start : ℕ) (es : List Expr) → AllByRecursion IsExpr es → Alls Stands (exprs_nodes env start es)
exprs_stand env start [] g = none
exprs_stand env start (e ∷ others) g = both (expr_stands env start e g.0) (exprs_stand env (start + width e + 1) others g.1)

call_stands : (env : Environment) (start : ℕ) (callee : Expr) (arguments : Arguments) → IsExpr (Call callee arguments) → Alls Stands (call_nodes env start callee arguments)
call_stands env start callee arguments g =
    let (at, p) = begins callee g.0 in
    both (both (callee_stands env start callee _ (expr_stands env start callee g.0)) (arguments_stand env _ _ arguments g.2)) (only (kept at p))

-- ---- sides

place_stands : (env : Environment) (start : ℕ) (e : Expr) → IsExpr e → Alls Stands (place_nodes env start e)
place_stands env start (Name ident) g = front (kept ident.pos refl) (only (kept ident.pos refl))
place_stands env start e g = let (at, p) = begins e g in both (expr_stands env start e g) (only (kept at p))

places_stand : (env : Environment) (start : ℕ) (es : List Expr) → AllByRecursion IsPrimary es → Alls Stands (all_places env start es)
places_stand env start [] g = none
places_stand env start (e ∷ others) g = both (place_stands env start e g.0.0) (places_stand env (start + width e + 1) others g.1)

source_stands : (env : Environment) (start : ℕ) (places : List (Option Ty)) (e : Expr) → IsExpr e → Alls Stands (source_nodes env start places e)
source_stands env start places (Call callee arguments) g = let (at, p) = begins callee g.0 in both (call_stands env start callee arguments g) (only (kept at p))
source_stands env start places e g = value_stands env start (first_place places) e g

apart_stand : (env : Environment) (start : ℕ) (places : List (Option Ty)) (es : List Expr) → AllByRecursion IsExpr es → Alls Stands (sources_apart env start places es)
apart_stand env start places [] g = none
apart_stand env start places (e ∷ others) g = both (source_stands env start (first_place places ∷ []) e g.0) (apart_stand env (start + width e + 1) (other_places places) others g.1)

pub sources_stand : (env : Environment) (start : ℕ) (places : List (Option Ty)) (es : List Expr) → AllByRecursion IsExpr es → Alls Stands (sources_nodes env start places es)
sources_stand env start places [] g = none
sources_stand env start places (e ∷ []) g = source_stands env start places e g.0
sources_stand env start places (e ∷ other ∷ others) g = apart_stand env start places (e ∷ other ∷ others) g

update_stands : (env : Environment) (start sign after : ℕ) (pos : Option Pos) (places : List (Option Ty)) (values : List Expr) (at : Pos) → pos ≡ Some at → AllByRecursion IsExpr values
    → Alls Stands (update_nodes env start sign after pos places values)
update_stands env start sign after pos places [] at p g = none
update_stands env start sign after pos places (e ∷ others) at p g = both (sources_stand env (suc sign) places (e ∷ others) g) (only (kept at p))

pub first_begins : (es : List Expr) → es ≢ [] → AllByRecursion IsPrimary es → (at : Pos) × (beginning_of_first es ≡ Some at)
first_begins [] some g = absurd (some refl)
first_begins (e ∷ others) some g = begins e g.0.0

-- ---- declared locals

typed_stands : (env : Environment) (start : ℕ) (ty : Option TreeType) → Alls Stands (typed_nodes env start ty)
typed_stands env start None = none
typed_stands env start (Some ty) = type_stands env start ty

untyped_stands : (env : Environment) (start : ℕ) (local : declared_local.Local) (values : List Expr) (ty : Option TreeType) → local.ty ≡ ty → Alls Stands (untyped_nodes env start local values)
untyped_stands env start local values (Some ty) p = rw p none
untyped_stands env start local [] None p = rw p (only (kept local.name.pos refl))
untyped_stands env start local (value ∷ values) None p = rw p none

variables_stand : (env : Environment) (start : ℕ) (values : List Expr) (locals : List declared_local.Local) → Alls Stands (variable_nodes env start values locals)
variables_stand env start values [] = none
variables_stand env start values (local ∷ others) =
    front (kept local.name.pos refl) (both (both (untyped_stands env start local values local.ty refl) (typed_stands env (start + 2) local.ty)) (variables_stand (declare_variables env (local ∷ [])) (start + length (spell_local local) + 1) values others))

-- ---- clauses, operands

pub clause_stands : (env : Environment) (owner : Owner) (start : ℕ) (clause : Clause) → IsClause clause → Alls Stands (clause_nodes env owner start clause)
clause_stands env owner start (Condition kind pos condition) g = both (condition_stands env (suc start) condition g) (only (kept pos refl))
clause_stands env owner start (Decreases pos values) g = both (exprs_stand env (suc start) values g.1) (only (kept pos refl))

clauses_stand : (env : Environment) (owner : Owner) (start : ℕ) (clauses : List Clause) → AllByRecursion IsClause clauses → Alls Stands (clauses_nodes env owner start clauses)
clauses_stand env owner start [] g = none
clauses_stand env owner start (clause ∷ others) g = both (clause_stands env owner start clause g.0) (clauses_stand env owner (start + length (spell_clause clause)) others g.1)

operands_stand : (env : Environment) (start : ℕ) (operands : List PrintOperand) → AllByRecursion IsOperand operands → Alls Stands (operand_nodes env start operands)
operands_stand env start [] g = none
operands_stand env start (Text characters ∷ others) g = operands_stand env (start + 2) others g.1
operands_stand env start (Value e ∷ others) g = both (expr_stands env start e g.0) (operands_stand env (start + width e + 1) others g.1)

whole_stands : (env : Environment) (start : ℕ) (e : Expr) → IsExpr e → Alls Stands (whole_nodes env start e)
whole_stands env start (Call callee arguments) g = call_stands env start callee arguments g
whole_stands env start e g = let (at, p) = begins e g in both (expr_stands env start e g) (only (kept at p))

-- ---- statements

mutual
  statement_stands : (env : Environment) (start : ℕ) (s : Statement) → IsStatement s → Alls Stands (statement_nodes env start s)
  statement_stands env start (Nested pos body) g = statements_stand (enter env) (suc start) body g
  statement_stands env start (Var pos locals values) g = both (variables_stand env (suc start) values locals) (update_stands env start (start + 1 + local_widths locals) (start + length (spell_statement (Var pos locals values))) (Some pos) (types_of_locals env (declared_by env locals)) values pos refl g.1)
  statement_stands env start (Assign targets values) g =
      let (at, p) = first_begins targets g.0.0 g.0.1 in both (places_stand env start targets g.0.1)
      (update_stands env start (start + widths targets) (start + length (spell_statement (Assign targets values))) (beginning_of_first targets) (place_types env targets) values at p g.1.1)
  statement_stands env start (Expression value) g = whole_stands env start value g.0
  statement_stands env start (If pos guard opens body others last) g =
      let opening = start + 1 + width guard in
      let behind_body = opening + 2 + length (spell_statements body) in
      let first = past env (locals_in_all body) in
      both (both (both (condition_stands env (suc start) guard g.0) (statements_stand (enter env) (suc opening) body g.1)) (branches_stand first behind_body others g.2))
      (otherwise_stands (past first (locals_in_branches others)) (behind_body + length (spell_branches others)) last g.3)
  statement_stands env start (While pos guard clauses opens body) g =
      let at_clauses = start + 1 + width guard in
      let opening = at_clauses + clause_widths clauses in
      both (both (both (condition_stands env (suc start) guard g.0) (clauses_stand env Owner.OfLoop at_clauses clauses g.1)) (statements_stand (inside_loop (enter env)) (suc opening) body g.2)) (only (kept pos refl))
  statement_stands env start (Return pos values) g = both (sources_stand env (suc start) (types_of_locals env env.results) values g) (only (kept pos refl))
  statement_stands env start (Break pos) g = only (kept pos refl)
  statement_stands env start (Assert pos condition) g = condition_stands env (suc start) condition g
  statement_stands env start (Print pos operands) g = operands_stand env (suc start) operands g.1

  pub statements_stand : (env : Environment) (start : ℕ) (s : Statements) → AreStatements s → Alls Stands (statements_nodes env start s)
  statements_stand env start done g = none
  statements_stand env start (next statement others) g = both (statement_stands env start statement g.0) (statements_stand (behind env statement) (start + length (spell_statement statement)) others g.1)

  branches_stand : (env : Environment) (start : ℕ) (branches : Branches) → AreBranches branches → Alls Stands (branches_nodes env start branches)
  branches_stand env start file.end g = none
  branches_stand env start (file.more pos guard opens body others) g =
      let opening = start + 2 + width guard in
      both (both (condition_stands env (start + 2) guard g.0.0) (statements_stand (enter env) (suc opening) body g.0.1)) (branches_stand (past env (locals_in_all body)) (opening + 2 + length (spell_statements body)) others g.1)

  otherwise_stands : (env : Environment) (start : ℕ) (last : Otherwise) → IsOtherwise last → Alls Stands (otherwise_nodes env start last)
  otherwise_stands env start without g = none
  otherwise_stands env start (otherwise opens body) g = statements_stand (enter env) (start + 2) body g
