-- The walk over declarations: what private contracts cite.
use Rattle.std.specs.Prelude.{ℕ, false, List, [], ◌∷◌, map, slice_get, unwrap_or, Option, Some, None, Ok, Err}
use Rattle.df_base.specs.declared.refusal.Code.TheVariants as codes
use Rattle.df_base.specs.declared.refusal.Detail.TheVariants as details
use Rattle.df_base.specs.declared.refusal.Refusal.{Refusal}
use Rattle.df_lang.specs.Newtype as types
use Rattle.df_lang.specs.Program as program
use Rattle.df_lang.specs.Stmt as typed
use Rattle.df_ntree.specs.declared.tree.Ident.{Ident}
use Rattle.df_ntree.specs.declared.file.Parameter.{Parameter}
use Rattle.df_ntree.specs.File.{NewtypeDeclaration, MethodDeclaration, Declaration, Newtype, Method, Statements}
use Rattle.df_ntyping.specs.Table.{Table, results_of, type_of}
use Rattle.df_ntyping.specs.Environment.{Environment, enter, with_types}
use Rattle.df_ntyping.specs.LocalTypes.{inferred_behind_all}
use Rattle.df_ntyping.specs.FileNodes.{over_parameters, over_both, over_body}
use Rattle.df_ntyping.specs.Node.{OfMethod}
use Rattle.df_ntyping.specs.rules.Newtypes.{Bounds}
use Rattle.df_ntexpr.specs.Replies.{Reply}
use Rattle.df_ntstmt.specs.mirror.Steps.{and_then, or_int}
use Rattle.df_ntstmt.specs.mirror.Clauses.{Clauses, clauses_in}
use Rattle.df_ntstmt.specs.mirror.Statements.{statements_in}
use Rattle.df_ntdecl.specs.mirror.Bounds.{bounds_in}

-- a newtype has no range that holds its default
abbrev pub no_range : Ident → Refusal
no_range ident = record { code = codes.Range; pos = ident.pos; detail = details.Nothing }

-- a name without a text has none
abbrev pub text_of : List (List ℕ) → ℕ → List ℕ
text_of names name = unwrap_or (slice_get names name) []

abbrev pub declared_in : List (List ℕ) → Ident → types.Declared
declared_in names ident = record { name = ident.name; text = text_of names ident.name; pos = ident.pos }

abbrev pub param_in : List (List ℕ) → Table → Parameter → program.Param
param_in names table tree = record { declared = declared_in names tree.name; ty = or_int (type_of table.newtypes tree.ty); is_ghost = false }

abbrev pub params_in : List (List ℕ) → Table → List Parameter → List program.Param
params_in names table trees = map (param_in names table) trees

abbrev pub newtype_from : types.Declared → Bounds → types.Newtype
newtype_from declared bounds = record { declared = declared; low = bounds.low; high = bounds.high; default = bounds.default }

abbrev pub newtype_with : List (List ℕ) → NewtypeDeclaration → Option Bounds → Reply types.Newtype
newtype_with names tree None = Err (no_range tree.name)
newtype_with names tree (Some bounds) = Ok (newtype_from (declared_in names tree.name) bounds)

abbrev pub newtype_in : List (List ℕ) → NewtypeDeclaration → Reply types.Newtype
newtype_in names tree = newtype_with names tree (bounds_in tree)

-- the method of these parts
abbrev pub method_with : List (List ℕ) → Table → MethodDeclaration → Clauses → typed.Stmts → program.Method
method_with names table tree all body = record {
  declared = declared_in names tree.name;
  parameters = params_in names table tree.parameters;
  results = params_in names table (results_of tree);
  preconditions = all.preconditions;
  postconditions = all.postconditions;
  decreases = all.decreases;
  pos = tree.body.pos;
  body = body;
}

abbrev pub contract_in : Table → MethodDeclaration → Reply Clauses
contract_in table tree = clauses_in (over_parameters table tree) (over_both table tree) OfMethod tree.clauses

-- with what fixes the types of all its locals
abbrev pub body_in : Environment → Statements → Reply typed.Stmts
body_in env body = statements_in (with_types (enter env) (inferred_behind_all (enter env) body)) body

abbrev pub method_in : List (List ℕ) → Table → MethodDeclaration → Reply program.Method
method_in names table tree =
    and_then (contract_in table tree) (λ (all : Clauses).
    and_then (statements_in (over_body table tree) tree.body.statements) (λ (body : typed.Stmts). Ok (method_with names table tree all body)))

abbrev pub declaration_in : List (List ℕ) → Table → Declaration → Reply program.Decl
declaration_in names table (Newtype tree) = and_then (newtype_in names tree) (λ (newtype : types.Newtype). Ok (program.NewtypeDecl newtype))
declaration_in names table (Method tree) = and_then (method_in names table tree) (λ (method : program.Method). Ok (program.MethodDecl method))

abbrev pub declarations_in : List (List ℕ) → Table → List Declaration → Reply (List program.Decl)
declarations_in names table [] = Ok []
declarations_in names table (tree ∷ others) =
    and_then (declaration_in names table tree) (λ (one : program.Decl).
    and_then (declarations_in names table others) (λ (rest : List program.Decl). Ok (one ∷ rest)))
