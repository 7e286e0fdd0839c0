-- The nodes of a file, each where it stands. Of a newtype only names are looked at, and whether it is of its form.
use Rattle.std.specs.Prelude.{ℕ, suc, ◌+◌, Bool, true, false, List, [], ◌∷◌, ◌++◌, length, filter, drop, Option, Some, None}
use Rattle.df_ntree.specs.declared.tree.Ident.{Ident}
use Rattle.df_ntree.specs.declared.file.Parameter.{Parameter}
use Rattle.df_ntree.specs.declared.file.ConditionKind.TheVariants as conditions
use Rattle.df_ntree.specs.Expr.{Expr}
use Rattle.df_ntree.specs.File.{Clause, Condition, NewtypeDeclaration, MethodDeclaration, Declaration, Newtype, Method, File}
use Rattle.df_ntree.specs.FileSpelling.{spell_parameters, spell_results, spell_typed, spell_clause, spell_declaration}
use Rattle.df_ntree.specs.Spelling.{optional}
use Rattle.df_ntyping.specs.Table.{Table, results_of, table_of}
use Rattle.df_ntyping.specs.Environment.{Environment, Parameter_role, Result_role, Variable_role, enter, declare, declare_parameters, names_of, with_types}
use Rattle.df_ntyping.specs.LocalTypes.{inferred_behind_all, fixed_by}
use Rattle.df_ntyping.specs.Node as nodes
use Rattle.df_ntyping.specs.Node.{Node, Occurrence, Owner}
use Rattle.df_ntyping.specs.ExprNodes.{width, occurrence, token_at, type_nodes, expr_nodes}
use Rattle.df_ntyping.specs.StatementNodes.{clause_nodes, clause_widths, statements_nodes}

-- ---- environments

-- no locals yet
abbrev pub empty_environment : Table → Environment
empty_environment table = record { table = table; outer = []; inner = []; next = 0; types = []; results = []; in_loop = false }

-- the parameters alone, with their types
abbrev pub over_parameters : Table → MethodDeclaration → Environment
over_parameters table method =
    let env = declare_parameters (empty_environment table) Parameter_role method.parameters in
    with_types env (fixed_by env method.parameters)

-- and the results
abbrev pub over_both : Table → MethodDeclaration → Environment
over_both table method =
    let parameters = over_parameters table method in
    let both = declare_parameters parameters Result_role (results_of method) in
    record both { types = parameters.types ++ fixed_by both (results_of method); results = drop (length method.parameters) both.inner }

-- the body is a scope of its own, and has what fixes the types of all its locals
abbrev pub over_body : Table → MethodDeclaration → Environment
over_body table method =
    let before = enter (over_both table method) in
    with_types before (inferred_behind_all before method.body.statements)

-- Results are seen by what is owed behind the body alone, not by what callers owe, by measures or by clauses that no
-- method has.
abbrev pub over_clause : Table → MethodDeclaration → Clause → Environment
over_clause table method (Condition conditions.Ensures pos condition) = over_both table method
over_clause table method clause = over_parameters table method

-- ---- newtypes

-- a name that is used, or a type
abbrev pub is_use : Node → Bool
is_use (nodes.UsedName ident) = true
is_use (nodes.UsedType ident) = true
is_use node = false

-- the names in an expression
abbrev pub use_nodes : Environment → ℕ → Expr → List Occurrence
use_nodes env start e = filter (λ (one : Occurrence). is_use one.node) (expr_nodes env start e)

abbrev pub witness_nodes : Environment → ℕ → Option Expr → List Occurrence
witness_nodes env start None = []
witness_nodes env start (Some e) = use_nodes env (suc start) e

-- the predicate sees the variable, the witness does not
abbrev pub newtype_nodes : Environment → ℕ → NewtypeDeclaration → List Occurrence
newtype_nodes env start newtype =
    let predicate = start + 5 + length (spell_typed newtype.is_typed) in
    use_nodes (declare env Variable_role newtype.variable.name) predicate newtype.predicate
    ++ witness_nodes env (predicate + width newtype.predicate) newtype.witness
    ++ occurrence env (nodes.Newtype newtype) start (start + length (spell_declaration (Newtype newtype))) ∷ []

-- ---- methods

-- each is declared behind those before it
abbrev pub parameter_nodes : Environment → ℕ → List Parameter → List Occurrence
parameter_nodes env start [] = []
parameter_nodes env start (parameter ∷ others) =
    token_at env (nodes.NewName (names_of env.inner) parameter.name) start
    ∷ type_nodes env (start + 2) parameter.ty
    ++ parameter_nodes (declare env Parameter_role parameter.name.name) (start + 4) others

abbrev pub clauses_of_method : Table → MethodDeclaration → ℕ → List Clause → List Occurrence
clauses_of_method table method start [] = []
clauses_of_method table method start (clause ∷ others) =
    clause_nodes (over_clause table method clause) Owner.OfMethod start clause ++ clauses_of_method table method (start + length (spell_clause clause)) others

abbrev pub method_nodes : Table → ℕ → MethodDeclaration → List Occurrence
method_nodes table start method =
    let at_results = start + 2 + length (spell_parameters method.parameters) in
    let at_clauses = at_results + length (optional spell_results method.results) in
    let opening = at_clauses + clause_widths method.clauses in
    parameter_nodes (empty_environment table) (start + 3) method.parameters
    ++ parameter_nodes (over_parameters table method) (at_results + 2) (results_of method)
    ++ clauses_of_method table method at_clauses method.clauses
    ++ statements_nodes (over_body table method) (suc opening) method.body.statements

-- ---- files

abbrev pub declared_name : Declaration → Ident
declared_name (Newtype x) = x.name
declared_name (Method x) = x.name

abbrev pub declaration_nodes : Table → ℕ → Declaration → List Occurrence
declaration_nodes table start (Newtype x) = newtype_nodes (empty_environment table) start x
declaration_nodes table start (Method x) = method_nodes table start x

-- each is declared behind those before it
abbrev pub declarations_nodes : Table → List ℕ → ℕ → List Declaration → List Occurrence
declarations_nodes table before start [] = []
declarations_nodes table before start (declaration ∷ others) =
    token_at (empty_environment table) (nodes.NewName before (declared_name declaration)) (suc start)
    ∷ declaration_nodes table start declaration
    ++ declarations_nodes table (before ++ (declared_name declaration).name ∷ []) (start + length (spell_declaration declaration)) others

abbrev pub file_nodes : File → List Occurrence
file_nodes file = declarations_nodes (table_of file) [] 0 file.declarations
