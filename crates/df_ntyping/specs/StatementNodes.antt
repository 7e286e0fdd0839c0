-- The nodes of a statement that begins at a token, each where it stands.
use Rattle.std.specs.Prelude.{ℕ, suc, ◌+◌, List, [], ◌∷◌, ◌++◌, length, drop, Option, Some, None}
use Rattle.df_base.specs.declared.pos.Pos.{Pos}
use Rattle.df_lang.specs.declared.ty.Ty.{Ty}
use Rattle.df_ntree.specs.declared.expr.TreeType.{TreeType}
use Rattle.df_ntree.specs.declared.file.Local as declared_local
use Rattle.df_ntree.specs.Expr.{Expr, Name, Call}
use Rattle.df_ntree.specs.File.{Clause, Condition, Decreases, PrintOperand, Text, Value, Statement, Nested, Var, Assign, Expression, If, While, Return, Break, Assert, Print, Statements, done, next, Branches, end, more, Otherwise, without, otherwise}
use Rattle.df_ntree.specs.FileSpelling.{spell_statement, spell_statements, spell_branches, spell_clause, spell_local}
use Rattle.df_ntyping.specs.Environment.{Environment, Local, enter, inside_loop, past, declare_variables, names_of, behind, locals_in_all, locals_in_branches}
use Rattle.df_ntyping.specs.Places.{beginning_of_first}
use Rattle.df_ntyping.specs.LocalTypes.{place_types, types_of_locals, results_of_call}
use Rattle.df_ntyping.specs.Node as nodes
use Rattle.df_ntyping.specs.Node.{Node, Occurrence, Owner}
use Rattle.df_ntyping.specs.ExprNodes.{width, occurrence, token_at, type_nodes, expr_nodes, value_nodes, condition_nodes, exprs_nodes, call_nodes, first_place, other_places}

-- ---- left sides

-- A name that is assigned is a place, and no expression. Another left side is one, with what it breaks itself.
abbrev pub place_nodes : Environment → ℕ → Expr → List Occurrence
place_nodes env start (Name ident) = token_at env (nodes.UsedName ident) start ∷ token_at env (nodes.Place (Name ident)) start ∷ []
place_nodes env start e = expr_nodes env start e ++ occurrence env (nodes.Place e) start (start + width e) ∷ []

abbrev pub all_places : Environment → ℕ → List Expr → List Occurrence
all_places env start [] = []
all_places env start (target ∷ others) = place_nodes env start target ++ all_places env (start + width target + 1) others

-- ---- right sides

-- a call may be a whole right side: its results go to the places; another value goes to the first
abbrev pub source_nodes : Environment → ℕ → List (Option Ty) → Expr → List Occurrence
source_nodes env start places (Call callee arguments) =
    call_nodes env start callee arguments
    ++ occurrence env (nodes.Results places (results_of_call env callee) (Call callee arguments)) start (start + width (Call callee arguments)) ∷ []
source_nodes env start places e = value_nodes env start (first_place places) e

-- each to its own place
abbrev pub sources_apart : Environment → ℕ → List (Option Ty) → List Expr → List Occurrence
sources_apart env start places [] = []
sources_apart env start places (value ∷ others) =
    source_nodes env start (first_place places ∷ []) value ++ sources_apart env (start + width value + 1) (other_places places) others

-- one right side gives its values to all places, of several each gives one to its own
abbrev pub sources_nodes : Environment → ℕ → List (Option Ty) → List Expr → List Occurrence
sources_nodes env start places (value ∷ []) = source_nodes env start places value
sources_nodes env start places values = sources_apart env start places values

-- how many tokens expressions take that are parted by commas
abbrev pub widths : List Expr → ℕ
widths [] = 0
widths (e ∷ []) = width e
widths (e ∷ others) = width e + 1 + widths others

-- ---- declared locals

abbrev pub typed_nodes : Environment → ℕ → Option TreeType → List Occurrence
typed_nodes env start None = []
typed_nodes env start (Some ty) = type_nodes env start ty

-- of a local without a type, declared without a value
abbrev pub untyped_nodes : Environment → ℕ → declared_local.Local → List Expr → List Occurrence
untyped_nodes env start local values = elim local.ty [
  | Some ty ↦ []
  | None ↦ elim values [
    | [] ↦ token_at env (nodes.Untyped env.next local.name) start ∷ []
    | _ ↦ []
  ]
]

-- each is declared behind those before it
abbrev pub variable_nodes : Environment → ℕ → List Expr → List declared_local.Local → List Occurrence
variable_nodes env start values [] = []
variable_nodes env start values (local ∷ others) =
    token_at env (nodes.NewName (names_of env.inner) local.name) start
    ∷ untyped_nodes env start local values
    ++ typed_nodes env (start + 2) local.ty
    ++ variable_nodes (declare_variables env (local ∷ [])) (start + length (spell_local local) + 1) values others

-- the locals that it declares, by their numbers
abbrev pub declared_by : Environment → List declared_local.Local → List Local
declared_by env locals = drop (length env.inner) (declare_variables env locals).inner

-- how many tokens declared locals take
abbrev pub local_widths : List declared_local.Local → ℕ
local_widths [] = 0
local_widths (local ∷ []) = length (spell_local local)
local_widths (local ∷ others) = length (spell_local local) + 1 + local_widths others

-- `:=` and values; without it nothing is asked
abbrev pub update_nodes : Environment → (start sign after : ℕ) → Option Pos → List (Option Ty) → List Expr → List Occurrence
update_nodes env start sign after pos places [] = []
update_nodes env start sign after pos places values =
    sources_nodes env (suc sign) places values ++ occurrence env (nodes.Assignment (length places) values pos) start after ∷ []

-- ---- clauses, operands

abbrev pub clause_nodes : Environment → Owner → ℕ → Clause → List Occurrence
clause_nodes env owner start (Condition kind pos condition) =
    condition_nodes env (suc start) condition ++ occurrence env (nodes.ClauseOf owner (Condition kind pos condition)) start (start + length (spell_clause (Condition kind pos condition))) ∷ []
clause_nodes env owner start (Decreases pos values) =
    exprs_nodes env (suc start) values ++ occurrence env (nodes.ClauseOf owner (Decreases pos values)) start (start + length (spell_clause (Decreases pos values))) ∷ []

abbrev pub clauses_nodes : Environment → Owner → ℕ → List Clause → List Occurrence
clauses_nodes env owner start [] = []
clauses_nodes env owner start (clause ∷ others) = clause_nodes env owner start clause ++ clauses_nodes env owner (start + length (spell_clause clause)) others

abbrev pub clause_widths : List Clause → ℕ
clause_widths [] = 0
clause_widths (clause ∷ others) = length (spell_clause clause) + clause_widths others

abbrev pub operand_nodes : Environment → ℕ → List PrintOperand → List Occurrence
operand_nodes env start [] = []
operand_nodes env start (Text characters ∷ others) = operand_nodes env (start + 2) others
operand_nodes env start (Value e ∷ others) = expr_nodes env start e ++ operand_nodes env (start + width e + 1) others

-- a statement that is one expression: a call for what it does
abbrev pub whole_nodes : Environment → ℕ → Expr → List Occurrence
whole_nodes env start (Call callee arguments) = call_nodes env start callee arguments
whole_nodes env start e = expr_nodes env start e ++ occurrence env (nodes.NoCall e) start (start + width e) ∷ []

-- ---- statements

abbrev mutual
  pub statement_nodes : Environment → ℕ → Statement → List Occurrence
  statement_nodes env start (Nested pos body) = statements_nodes (enter env) (suc start) body
  statement_nodes env start (Var pos locals values) =
      variable_nodes env (suc start) values locals
      ++ update_nodes env start (start + 1 + local_widths locals) (start + length (spell_statement (Var pos locals values))) (Some pos) (types_of_locals env (declared_by env locals)) values
  statement_nodes env start (Assign targets values) =
      all_places env start targets
      ++ update_nodes env start (start + widths targets) (start + length (spell_statement (Assign targets values))) (beginning_of_first targets) (place_types env targets) values
  statement_nodes env start (Expression value) = whole_nodes env start value
  -- numbers go on behind the locals of blocks that have ended
  statement_nodes env start (If pos guard opens body others last) =
      let opening = start + 1 + width guard in
      let behind_body = opening + 2 + length (spell_statements body) in
      let first = past env (locals_in_all body) in
      condition_nodes env (suc start) guard
      ++ statements_nodes (enter env) (suc opening) body
      ++ branches_nodes first behind_body others
      ++ otherwise_nodes (past first (locals_in_branches others)) (behind_body + length (spell_branches others)) last
  statement_nodes env start (While pos guard clauses opens body) =
      let at_clauses = start + 1 + width guard in
      let opening = at_clauses + clause_widths clauses in
      condition_nodes env (suc start) guard
      ++ clauses_nodes env Owner.OfLoop at_clauses clauses
      ++ statements_nodes (inside_loop (enter env)) (suc opening) body
      ++ occurrence env (nodes.Loop guard clauses pos) start (start + length (spell_statement (While pos guard clauses opens body))) ∷ []
  statement_nodes env start (Return pos values) =
      sources_nodes env (suc start) (types_of_locals env env.results) values
      ++ occurrence env (nodes.Return values pos) start (start + length (spell_statement (Return pos values))) ∷ []
  statement_nodes env start (Break pos) = occurrence env (nodes.Break pos) start (start + 2) ∷ []
  statement_nodes env start (Assert pos condition) = condition_nodes env (suc start) condition
  statement_nodes env start (Print pos operands) = operand_nodes env (suc start) operands

  pub statements_nodes : Environment → ℕ → Statements → List Occurrence
  statements_nodes env start done = []
  statements_nodes env start (next statement others) =
      statement_nodes env start statement ++ statements_nodes (behind env statement) (start + length (spell_statement statement)) others

  pub branches_nodes : Environment → ℕ → Branches → List Occurrence
  branches_nodes env start end = []
  branches_nodes env start (more pos guard opens body others) =
      let opening = start + 2 + width guard in
      condition_nodes env (start + 2) guard
      ++ statements_nodes (enter env) (suc opening) body
      ++ branches_nodes (past env (locals_in_all body)) (opening + 2 + length (spell_statements body)) others

  pub otherwise_nodes : Environment → ℕ → Otherwise → List Occurrence
  otherwise_nodes env start without = []
  otherwise_nodes env start (otherwise opens body) = statements_nodes (enter env) (start + 2) body
