-- All names of a file that have no meaning where they stand, or are declared twice in one scope, in the order of the text.
use Rattle.std.specs.Prelude.{◌≡◌, ℕ, suc, Bool, ◌||◌, List, [], ◌∷◌, ◌++◌, Option, Some, None, if◌then◌else◌, is_some}
use Rattle.std.specs.List.{flat_map}
use Rattle.df_base.specs.declared.refusal.Code.TheVariants as codes
use Rattle.df_base.specs.declared.refusal.Detail.TheVariants as details
use Rattle.df_base.specs.declared.refusal.Refusal.{Refusal}
use Rattle.df_ntree.specs.declared.tree.Ident.{Ident}
use Rattle.df_ntree.specs.declared.expr.TreeType.{TreeType}
use Rattle.df_ntree.specs.declared.expr.TreeType.TheVariants as types
use Rattle.df_ntree.specs.declared.file.Local as declared_local
use Rattle.df_ntree.specs.declared.file.Parameter.{Parameter}
use Rattle.df_ntree.specs.declared.file.ConditionKind.TheVariants as conditions
use Rattle.df_ntree.specs.Expr.{Expr, Number, Character, Truth, Name, Parentheses, Call, Unary, Cast, Operations, Leading, Members, Arguments, no_more, argument}
use Rattle.df_ntree.specs.Expr as tree
use Rattle.df_ntree.specs.File.{Clause, Condition, Decreases, PrintOperand, Text, Value, Statement, Nested, Var, Assign, Expression, If, While, Return, Break, Assert, Print, Statements, done, next, Branches, end, more, Otherwise, without, otherwise, NewtypeDeclaration, MethodDeclaration, Declaration, Newtype, Method, File}
use Rattle.df_ntyping.specs.Table.{Table, results_of, table_of}
use Rattle.df_ntyping.specs.FileNodes.{declared_name}
use Rattle.df_ntyping.specs.rules.Names.{is_among}
use Rattle.df_nnames.specs.Scope.{Scope, no_locals, all_locals, enter, declare}
use Rattle.df_nnames.specs.Globals.{Globals, globals_of}
use Rattle.df_nnames.specs.Table.{no_table}
use Rattle.df_nnames.specs.Listing.{is_declared, with_declaration}

abbrev pub unknown : Ident → Refusal
unknown ident = record { code = codes.Unknown; pos = ident.pos; detail = details.Word ident.name }

abbrev pub twice : Ident → Refusal
twice ident = record { code = codes.Twice; pos = ident.pos; detail = details.Word ident.name }

-- what is told where a test fails
abbrev pub else_told : Bool → Refusal → List Refusal
else_told holds refusal = if holds then [] else refusal ∷ []

-- what is told where a test holds
abbrev pub told_if : Bool → Refusal → List Refusal
told_if holds refusal = if holds then refusal ∷ [] else []

-- ---- Uses. In an expression, before arguments and on the left of an assignment a name means a local or a method; a type
-- is a word or the name of a newtype.

abbrev pub name_faults : Globals → Scope → Ident → List Refusal
name_faults globals scope ident = else_told (is_among (all_locals scope) ident.name || globals.is_method ident.name) (unknown ident)

abbrev pub type_faults : Globals → TreeType → List Refusal
type_faults globals (types.Basic basic pos) = []
type_faults globals (types.Named ident) = else_told (is_some (globals.newtype ident.name)) (unknown ident)

abbrev mutual
  pub expr_faults : Globals → Scope → Expr → List Refusal
  expr_faults globals scope (Number literal) = []
  expr_faults globals scope (Character code pos) = []
  expr_faults globals scope (Truth value pos) = []
  expr_faults globals scope (Name ident) = name_faults globals scope ident
  expr_faults globals scope (Parentheses pos inner) = expr_faults globals scope inner
  expr_faults globals scope (Call callee arguments) = expr_faults globals scope callee ++ argument_faults globals scope arguments
  expr_faults globals scope (Unary operator pos operand) = expr_faults globals scope operand
  expr_faults globals scope (Cast operand all) = expr_faults globals scope operand ++ flat_map (type_faults globals) all
  expr_faults globals scope (Operations first rest) = expr_faults globals scope first ++ member_faults globals scope rest
  expr_faults globals scope (Leading operations) = member_faults globals scope operations

  pub member_faults : Globals → Scope → Members → List Refusal
  member_faults globals scope tree.end = []
  member_faults globals scope (tree.more operator pos operand rest) = expr_faults globals scope operand ++ member_faults globals scope rest

  pub argument_faults : Globals → Scope → Arguments → List Refusal
  argument_faults globals scope no_more = []
  argument_faults globals scope (argument e rest) = expr_faults globals scope e ++ argument_faults globals scope rest

abbrev pub exprs_faults : Globals → Scope → List Expr → List Refusal
exprs_faults globals scope all = flat_map (expr_faults globals scope) all

abbrev pub operand_faults : Globals → Scope → PrintOperand → List Refusal
operand_faults globals scope (Text characters) = []
operand_faults globals scope (Value e) = expr_faults globals scope e

abbrev pub clause_faults : Globals → Scope → Clause → List Refusal
clause_faults globals scope (Condition kind pos condition) = expr_faults globals scope condition
clause_faults globals scope (Decreases pos values) = exprs_faults globals scope values

-- ---- Statements. A local is in scope behind its declaration, until the end of its block.

-- the name is new in its scope
abbrev pub new_faults : Scope → Ident → List Refusal
new_faults scope ident = told_if (is_among scope.inner ident.name) (twice ident)

-- of a type that is written or not
abbrev pub written_faults : Globals → Option TreeType → List Refusal
written_faults globals None = []
written_faults globals (Some ty) = type_faults globals ty

abbrev pub local_faults : Globals → Scope → List declared_local.Local → List Refusal
local_faults globals scope [] = []
local_faults globals scope (local ∷ others) =
    new_faults scope local.name ++ (written_faults globals local.ty ++ local_faults globals (declare scope local.name.name) others)

abbrev pub with_locals : Scope → List declared_local.Local → Scope
with_locals scope [] = scope
with_locals scope (local ∷ others) = with_locals (declare scope local.name.name) others

abbrev pub scope_after : Scope → Statement → Scope
scope_after scope (Var pos locals values) = with_locals scope locals
scope_after scope statement = scope

abbrev mutual
  pub statement_faults : Globals → Scope → Statement → List Refusal
  statement_faults globals scope (Nested pos body) = statements_faults globals (enter scope) body
  -- the values do not see the locals
  statement_faults globals scope (Var pos locals values) = local_faults globals scope locals ++ exprs_faults globals scope values
  statement_faults globals scope (Assign targets values) = exprs_faults globals scope targets ++ exprs_faults globals scope values
  statement_faults globals scope (Expression value) = expr_faults globals scope value
  statement_faults globals scope (If pos guard opens body others last) =
      expr_faults globals scope guard ++ (statements_faults globals (enter scope) body ++ (branches_faults globals scope others ++ otherwise_faults globals scope last))
  statement_faults globals scope (While pos guard clauses opens body) =
      expr_faults globals scope guard ++ (flat_map (clause_faults globals scope) clauses ++ statements_faults globals (enter scope) body)
  statement_faults globals scope (Return pos values) = exprs_faults globals scope values
  statement_faults globals scope (Break pos) = []
  statement_faults globals scope (Assert pos condition) = expr_faults globals scope condition
  statement_faults globals scope (Print pos operands) = flat_map (operand_faults globals scope) operands

  pub statements_faults : Globals → Scope → Statements → List Refusal
  statements_faults globals scope done = []
  statements_faults globals scope (next statement others) =
      statement_faults globals scope statement ++ statements_faults globals (scope_after scope statement) others

  pub branches_faults : Globals → Scope → Branches → List Refusal
  branches_faults globals scope end = []
  branches_faults globals scope (more pos guard opens body rest) =
      expr_faults globals scope guard ++ (statements_faults globals (enter scope) body ++ branches_faults globals scope rest)

  pub otherwise_faults : Globals → Scope → Otherwise → List Refusal
  otherwise_faults globals scope without = []
  otherwise_faults globals scope (otherwise opens body) = statements_faults globals (enter scope) body

-- ---- Declarations. Parameters and results are one scope; only what is owed behind the body sees the results.

abbrev pub parameter_faults : Globals → Scope → List Parameter → List Refusal
parameter_faults globals scope [] = []
parameter_faults globals scope (parameter ∷ others) =
    new_faults scope parameter.name ++ (type_faults globals parameter.ty ++ parameter_faults globals (declare scope parameter.name.name) others)

abbrev pub with_parameters : Scope → List Parameter → Scope
with_parameters scope [] = scope
with_parameters scope (parameter ∷ others) = with_parameters (declare scope parameter.name.name) others

abbrev pub scope_of_clause : Scope → Scope → Clause → Scope
scope_of_clause parameters both (Condition conditions.Ensures pos condition) = both
scope_of_clause parameters both clause = parameters

abbrev pub contract_faults : Globals → Scope → Scope → Clause → List Refusal
contract_faults globals parameters both clause = clause_faults globals (scope_of_clause parameters both clause) clause

abbrev pub method_faults : Globals → MethodDeclaration → List Refusal
method_faults globals method =
    let parameters = with_parameters no_locals method.parameters in
    let both = with_parameters parameters (results_of method) in
    parameter_faults globals no_locals method.parameters
    ++ (parameter_faults globals parameters (results_of method)
    ++ (flat_map (contract_faults globals parameters both) method.clauses
    ++ statements_faults globals (enter both) method.body.statements))

abbrev pub witness_faults : Globals → Option Expr → List Refusal
witness_faults globals None = []
witness_faults globals (Some e) = expr_faults globals no_locals e

-- the predicate sees the variable, the witness does not
abbrev pub newtype_faults : Globals → NewtypeDeclaration → List Refusal
newtype_faults globals newtype =
    expr_faults globals (declare no_locals newtype.variable.name) newtype.predicate ++ witness_faults globals newtype.witness

abbrev pub declaration_faults : Globals → Declaration → List Refusal
declaration_faults globals (Newtype x) = newtype_faults globals x
declaration_faults globals (Method x) = method_faults globals x

-- the declarations behind those of the table
abbrev pub declarations_faults : Globals → Table → ℕ → List Declaration → List Refusal
declarations_faults globals table id [] = []
declarations_faults globals table id (declaration ∷ others) =
    told_if (is_declared table (declared_name declaration).name) (twice (declared_name declaration))
    ++ (declaration_faults globals declaration
    ++ declarations_faults globals (with_declaration globals table id declaration) (suc id) others)

abbrev pub file_faults : File → List Refusal
file_faults file = declarations_faults (globals_of (table_of file)) no_table 0 file.declarations

-- it is the first of them
abbrev pub IsFirst : List Refusal → Refusal → Type 0
IsFirst [] refusal = ⊥
IsFirst (first ∷ others) refusal = refusal ≡ first
