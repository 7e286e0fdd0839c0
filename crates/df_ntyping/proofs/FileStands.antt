-- Each node of a file of the grammar stands somewhere, so what a file is told to break can be told.
use Rattle.std.proofs.Common.{◌≡◌, ℕ, suc, ◌+◌, List, [], ◌∷◌, ◌++◌, length, Option, Some, None, refl}
use Rattle.std.specs.List.{AllByRecursion}
use Rattle.df_base.specs.declared.refusal.Detail.{Detail}
use Rattle.df_base.specs.declared.refusal.Detail.TheVariants as details
use Rattle.df_ntree.specs.declared.file.Parameter.{Parameter}
use Rattle.df_ntree.specs.Spelling.{IsOption}
use Rattle.df_ntree.specs.Expr.{Expr}
use Rattle.df_ntree.specs.ExprSpelling.{IsExpr}
use Rattle.df_ntree.specs.File.{Clause, MethodDeclaration, Declaration, Newtype, Method, File}
use Rattle.df_ntree.specs.FileSpelling.{spell_clause, spell_declaration, IsOuterExpr, IsOuterClause, IsDeclaration, IsFile}
use Rattle.df_ntyping.specs.Table.{Table, results_of, table_of}
use Rattle.df_ntyping.specs.Environment.{Environment, Parameter_role, Variable_role, declare}
use Rattle.df_ntyping.specs.Node as nodes
use Rattle.df_ntyping.specs.Node.{Node, Owner, node_name}
use Rattle.df_ntyping.specs.Rule.{Rule, Unknown, Twice, Typing, Uninferred, Range, code_of, detail_of, typing_number}
use Rattle.df_ntyping.specs.Breaks.{Breaks}
use Rattle.df_ntyping.specs.ExprNodes.{expr_nodes}
use Rattle.df_ntyping.specs.FileNodes.{empty_environment, over_parameters, over_body, over_clause, is_use, use_nodes, witness_nodes, parameter_nodes, clauses_of_method, declared_name, declaration_nodes, declarations_nodes, file_nodes}
use Rattle.df_ntyping.specs.Laws.{FaultIsTold}
use Rattle.df_ntyping.proofs.AllNodes.{Alls, none, front, only, both, there, some_of}
use Rattle.df_ntyping.proofs.ExprStands.{Stands, kept, type_stands, expr_stands}
use Rattle.df_ntyping.proofs.StatementStands.{clause_stands, statements_stand}
use Rattle.df_ntyping.proofs.LeastExists.{least_exists}

uses_stand : (env : Environment) (start : ℕ) (e : Expr) → IsExpr e → Alls Stands (use_nodes env start e)
uses_stand env start e g = some_of (λ one. is_use one.node) (expr_nodes env start e) (expr_stands env start e g)

witness_stands : (env : Environment) (start : ℕ) (witness : Option Expr) → IsOption IsOuterExpr witness → Alls Stands (witness_nodes env start witness)
witness_stands env start None g = none
witness_stands env start (Some e) g = uses_stand env (suc start) e g.0

parameters_stand : (env : Environment) (start : ℕ) (parameters : List Parameter) → Alls Stands (parameter_nodes env start parameters)
parameters_stand env start [] = none
parameters_stand env start (x ∷ others) = front (kept x.name.pos refl) (both (type_stands env (start + 2) x.ty) (parameters_stand (declare env Parameter_role x.name.name) (start + 4) others))

contract_stands : (table : Table) (method : MethodDeclaration) (start : ℕ) (clauses : List Clause) → AllByRecursion IsOuterClause clauses → Alls Stands (clauses_of_method table method start clauses)
contract_stands table method start [] g = none
contract_stands table method start (clause ∷ others) g =
    both (clause_stands (over_clause table method clause) Owner.OfMethod start clause g.0.0) (contract_stands table method (start + length (spell_clause clause)) others g.1)

declaration_stands : (table : Table) (start : ℕ) (x : Declaration) → IsDeclaration x → Alls Stands (declaration_nodes table start x)
declaration_stands table start (Newtype x) g =
    both (both (uses_stand (declare (empty_environment table) Variable_role x.variable.name) _ x.predicate g.0.0) (witness_stands (empty_environment table) _ x.witness g.1)) (only (kept x.name.pos refl))
declaration_stands table start (Method x) g =
    both (both (both (parameters_stand (empty_environment table) (start + 3) x.parameters) (parameters_stand (over_parameters table x) _ (results_of x))) (contract_stands table x _ x.clauses g.0))
    (statements_stand (over_body table x) _ x.body.statements g.1.0)

declarations_stand : (table : Table) (before : List ℕ) (start : ℕ) (all : List Declaration) → AllByRecursion IsDeclaration all → Alls Stands (declarations_nodes table before start all)
declarations_stand table before start [] g = none
declarations_stand table before start (x ∷ others) g = front (name_stands x) (both (declaration_stands table start x g.0) (declarations_stand table (before ++ (declared_name x).name ∷ []) (start + length (spell_declaration x)) others g.1)) where
  name_stands : (y : Declaration) → Stands (record { env = empty_environment table; node = nodes.NewName before (declared_name y); start = suc start; after = suc (suc start) })
  name_stands (Newtype y) = kept y.name.pos refl
  name_stands (Method y) = kept y.name.pos refl

pub file_stands : (file : File) → IsFile file → Alls Stands (file_nodes file)
file_stands file g = declarations_stand (table_of file) [] 0 file.declarations g

-- ---- details

detail_there : (env : Environment) (node : Node) (rule : Rule) → Breaks env node rule → (detail : Detail) × (detail_of rule (node_name node) ≡ Some detail)
detail_there env node (Typing rule) h = (details.Rule (typing_number rule), refl)
detail_there env node Uninferred h = (details.Nothing, refl)
detail_there env node Range h = (details.Nothing, refl)
detail_there env (nodes.UsedName ident) Unknown h = (details.Word ident.name, refl)
detail_there env (nodes.UsedType ident) Unknown h = (details.Word ident.name, refl)
detail_there env (nodes.NewName before ident) Twice h = (details.Word ident.name, refl)
detail_there env node Unknown h = absurd cc
detail_there env node Twice h = absurd cc

pub fault_is_told : FaultIsTold
fault_is_told file fault g h =
    let (told, least) = least_exists (file_nodes file) fault h in
    let place = there (file_nodes file) told.at (file_stands file g) least.broken.0 in
    let (detail, p) = detail_there told.at.env told.at.node told.rule least.broken.1 in
    (record { code = code_of told.rule; pos = place.pos; detail = detail }, record { fault = told; least = least; tells = record { code = refl; pos = place.there; detail = p } })
