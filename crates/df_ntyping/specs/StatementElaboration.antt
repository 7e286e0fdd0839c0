-- Elaboration of statements: rules on source and typed program side by side.
use Rattle.std.specs.Prelude.{◌≡◌, ℕ, suc, Bool, true, false, ◌||◌, List, [], ◌∷◌, ◌++◌, map, if◌then◌else◌, Option, Some, None}
use Rattle.std.specs.List.{list_any, list_all}
use Rattle.df_base.specs.declared.pos.Pos.{Pos}
use Rattle.df_lang.specs.declared.ty.Ty.{Ty}
use Rattle.df_lang.specs.Expr as typed_expr
use Rattle.df_lang.specs.Stmt as typed
use Rattle.df_ntree.specs.declared.file.Local as declared_local
use Rattle.df_ntree.specs.declared.file.ConditionKind.{ConditionKind}
use Rattle.df_ntree.specs.declared.file.ConditionKind.TheVariants as conditions
use Rattle.df_ntree.specs.Expr.{Expr, Call}
use Rattle.df_ntree.specs.File.{Clause, Condition, Decreases, PrintOperand, Text, Value, Statement, Nested, Var, Assign, Expression, If, While, Return, Break, Assert, Print, Statements, done, next, Branches, end, more, Otherwise, without, otherwise}
use Rattle.df_ntyping.specs.Table.{Signature}
use Rattle.df_ntyping.specs.Environment.{Environment, enter, inside_loop, past, local_type, behind, locals_in_all, locals_in_branches}
use Rattle.df_ntyping.specs.Places.{beginning_of, beginning_of_first}
use Rattle.df_ntyping.specs.Node.{OfLoop}
use Rattle.df_ntyping.specs.rules.Loops.{belongs, is_decreases, has_measure}
use Rattle.df_ntyping.specs.ExprElaboration.{Elaborates, ElaboratesTruth}
use Rattle.df_ntyping.specs.SideElaboration.{IsCall, AreSources, AreTargets, AreReturned, types_of_targets}

-- ---- declared locals

-- each has its own number, and its type
abbrev pub AreVariables : Environment → ℕ → List declared_local.Local → List typed.Variable → Type 0
AreVariables env number [] variables = variables ≡ []
AreVariables env number (local ∷ others) variables =
    (ty : Ty) × (rest : List typed.Variable) × (local_type env number ≡ Some ty) × AreVariables env (suc number) others rest
    × (variables ≡ record { name = local.name.name; pos = local.name.pos; ty = ty; is_ghost = false; local = number } ∷ rest)

abbrev pub as_target : typed.Variable → typed.Target
as_target variable = record { local = variable.local; name = variable.name; pos = variable.pos; ty = variable.ty }

-- values go to their places; without `:=` there are none
abbrev pub MayUpdate : Environment → List typed.Target → List Expr → Option typed.Update → Type 0
MayUpdate env targets [] update = update ≡ None
MayUpdate env targets values update =
    (sources : List typed.Source) × AreSources env (types_of_targets targets) values sources × (update ≡ Some (record { targets = targets; sources = sources }))

-- ---- clauses

abbrev pub is_of_kind : ConditionKind → ConditionKind → Bool
is_of_kind conditions.Requires conditions.Requires = true
is_of_kind conditions.Ensures conditions.Ensures = true
is_of_kind conditions.Invariant conditions.Invariant = true
is_of_kind kind other = false

-- the conditions of a kind, in order
abbrev pub conditions_of : ConditionKind → List Clause → List Expr
conditions_of kind [] = []
conditions_of kind (Condition own pos e ∷ others) = if is_of_kind own kind then e ∷ conditions_of kind others else conditions_of kind others
conditions_of kind (Decreases pos values ∷ others) = conditions_of kind others

-- a clause stands where its expression begins
abbrev pub AreConditions : Environment → List Expr → List typed.Clause → Type 0
AreConditions env [] clauses = clauses ≡ []
AreConditions env (e ∷ others) clauses =
    (pos : Pos) × (condition : typed_expr.Expr) × (rest : List typed.Clause)
    × (beginning_of e ≡ Some pos) × ElaboratesTruth env e condition × AreConditions env others rest × (clauses ≡ record { pos = pos; condition = condition } ∷ rest)

-- all that `decreases` gives, in order
abbrev pub measures_in : List Clause → List Expr
measures_in [] = []
measures_in (Condition kind pos e ∷ others) = measures_in others
measures_in (Decreases pos values ∷ others) = values ++ measures_in others

abbrev pub AreMeasures : Environment → List Expr → List typed.Measure → Type 0
AreMeasures env [] measures = measures ≡ []
AreMeasures env (e ∷ others) measures =
    (ty : Ty) × (value : typed_expr.Expr) × (rest : List typed.Measure)
    × Elaborates env None e ty value × AreMeasures env others rest × (measures ≡ record { ty = ty; value = value } ∷ rest)

-- without `decreases` there is no measure but that by default
abbrev pub MayDecrease : Bool → Environment → List Clause → Option (List typed.Measure) → Type 0
MayDecrease false env clauses decreases = decreases ≡ None
MayDecrease true env clauses decreases = (measures : List typed.Measure) × AreMeasures env (measures_in clauses) measures × (decreases ≡ Some measures)

abbrev pub IsDecreases : Environment → List Clause → Option (List typed.Measure) → Type 0
IsDecreases env clauses decreases = MayDecrease (list_any is_decreases clauses) env clauses decreases

-- ---- printed operands

abbrev pub IsOperand : Environment → PrintOperand → typed.Operand → Type 0
IsOperand env (Text characters) operand = operand ≡ typed.Text characters
IsOperand env (Value e) operand = (ty : Ty) × (value : typed_expr.Expr) × Elaborates env None e ty value × (operand ≡ typed.Value ty value)

abbrev pub AreOperands : Environment → List PrintOperand → List typed.Operand → Type 0
AreOperands env [] operands = operands ≡ []
AreOperands env (operand ∷ others) operands =
    (one : typed.Operand) × (rest : List typed.Operand) × IsOperand env operand one × AreOperands env others rest × (operands ≡ one ∷ rest)

-- ---- statements

-- a statement that is a call drops the results
abbrev pub IsWhole : Environment → Expr → typed.Stmt → Type 0
IsWhole env (Call callee arguments) stmt = (signature : Signature) × (call : typed.Call) × IsCall env callee arguments signature call × (stmt ≡ typed.CallOf call)
IsWhole env e stmt = ⊥

abbrev mutual
  pub IsStatement : Environment → Statement → typed.Stmt → Type 0
  IsStatement env (Nested pos body) stmt = (inner : typed.Stmts) × AreStatements (enter env) body inner × (stmt ≡ typed.Block pos inner)
  IsStatement env (Var pos locals values) stmt =
      (variables : List typed.Variable) × (update : Option typed.Update)
      × AreVariables env env.next locals variables × MayUpdate env (map as_target variables) values update × (stmt ≡ typed.Var pos variables update)
  IsStatement env (Assign targets values) stmt =
      (pos : Pos) × (all : List typed.Target) × (sources : List typed.Source)
      × (beginning_of_first targets ≡ Some pos) × AreTargets env targets all × AreSources env (types_of_targets all) values sources
      × (stmt ≡ typed.Assign pos (record { targets = all; sources = sources }))
  IsStatement env (Expression value) stmt = IsWhole env value stmt
  IsStatement env (If pos guard opens body others last) stmt =
      let first = past env (locals_in_all body) in
      (condition : typed_expr.Expr) × (inner : typed.Stmts) × (rest : typed.Branches) × (final : typed.Stmts)
      × ElaboratesTruth env guard condition × AreStatements (enter env) body inner × AreBranches first others rest
      × IsOtherwise (past first (locals_in_branches others)) last final × (stmt ≡ typed.If (typed.branch pos condition inner rest) final)
  IsStatement env (While pos guard clauses opens body) stmt =
      (condition : typed_expr.Expr) × (invariants : List typed.Clause) × (decreases : Option (List typed.Measure)) × (inner : typed.Stmts)
      × ElaboratesTruth env guard condition × (list_all (belongs OfLoop) clauses ≡ true) × AreConditions env (conditions_of conditions.Invariant clauses) invariants
      × IsDecreases env clauses decreases × ((list_any is_decreases clauses || has_measure env guard) ≡ true)
      × AreStatements (inside_loop (enter env)) body inner × (stmt ≡ typed.While pos condition invariants decreases inner)
  IsStatement env (Return pos values) stmt =
      (targets : List typed.Target) × (update : Option typed.Update)
      × AreReturned env pos env.results targets × MayUpdate env targets values update × (stmt ≡ typed.Return pos update)
  IsStatement env (Break pos) stmt = (env.in_loop ≡ true) × (stmt ≡ typed.Break pos)
  IsStatement env (Assert pos condition) stmt = (e : typed_expr.Expr) × ElaboratesTruth env condition e × (stmt ≡ typed.Assert pos e)
  IsStatement env (Print pos operands) stmt = (all : List typed.Operand) × AreOperands env operands all × (stmt ≡ typed.Print pos all)

  pub AreStatements : Environment → Statements → typed.Stmts → Type 0
  AreStatements env done stmts = stmts ≡ typed.done
  AreStatements env (next statement others) stmts =
      (one : typed.Stmt) × (rest : typed.Stmts) × IsStatement env statement one × AreStatements (behind env statement) others rest × (stmts ≡ typed.next one rest)

  pub AreBranches : Environment → Branches → typed.Branches → Type 0
  AreBranches env end branches = branches ≡ typed.no_branch
  AreBranches env (more pos guard opens body others) branches =
      (condition : typed_expr.Expr) × (inner : typed.Stmts) × (rest : typed.Branches)
      × ElaboratesTruth env guard condition × AreStatements (enter env) body inner
      × AreBranches (past env (locals_in_all body)) others rest × (branches ≡ typed.branch pos condition inner rest)

  -- without an `else` nothing is done there
  pub IsOtherwise : Environment → Otherwise → typed.Stmts → Type 0
  IsOtherwise env without stmts = stmts ≡ typed.done
  IsOtherwise env (otherwise opens body) stmts = AreStatements (enter env) body stmts
