-- The nodes of a file come in order.
use Rattle.std.proofs.Common.{◌≡◌, ℕ, suc, ◌+◌, ◌≤◌, List, [], ◌∷◌, ◌++◌, length, Option, Some, None, refl, arith, length-append}
use Rattle.std.specs.List.{flat_map, AllByRecursion}
use Rattle.df_tok.specs.declared.sign.Sign.TheVariants as signs
use Rattle.df_ntree.specs.declared.file.Parameter.{Parameter}
use Rattle.df_ntree.specs.Spelling.{a_sign, separated, optional, IsOption}
use Rattle.df_ntree.specs.Expr.{Expr}
use Rattle.df_ntree.specs.ExprSpelling.{spell, IsExpr}
use Rattle.df_ntree.specs.File.{Clause, NewtypeDeclaration, MethodDeclaration, Declaration, Newtype, Method, File}
use Rattle.df_ntree.specs.FileSpelling.{spell_clause, spell_statements, spell_parameter, spell_parameters, spell_results, spell_typed, spell_witness, spell_block, spell_newtype, spell_method, spell_declaration, IsOuterExpr, IsOuterClause, IsDeclaration, IsFile}
use Rattle.df_ntyping.specs.Table.{Table, results_in, table_of}
use Rattle.df_ntyping.specs.Environment.{Environment, Parameter_role, Variable_role, declare, names_of}
use Rattle.df_ntyping.specs.Node.{Node, Owner}
use Rattle.df_ntyping.specs.ExprNodes.{width, token_at, type_nodes, expr_nodes}
use Rattle.df_ntyping.specs.StatementNodes.{clause_widths}
use Rattle.df_ntyping.specs.FileNodes.{empty_environment, over_parameters, over_body, over_clause, use_nodes, witness_nodes, newtype_nodes, parameter_nodes, clauses_of_method, method_nodes, declared_name, declaration_nodes, declarations_nodes, file_nodes}
use Rattle.df_ntyping.specs.Laws.{NodesAreInOrder}
use Rattle.df_ntyping.proofs.Order.{Segment, no_nodes, weaker, joined, ended, later_apart, some_order, all_ordered, AreApart, all_apart, AreAllAlike, all_alike}
use Rattle.df_ntyping.proofs.ExprOrder.{token_alone, type_order, expr_order}
use Rattle.df_ntyping.proofs.PartOrder.{later, and_then, separated_more, separated_one, type_width, clause_order, clauses_width}
use Rattle.df_ntyping.proofs.StatementOrder.{braces_width, statements_order}

-- ---- newtypes

use_order : (env : Environment) (start : ℕ) (e : Expr) → IsExpr e → Segment start start (start + width e) (use_nodes env start e)
use_order env start e g = some_order start start (start + width e) _ (expr_nodes env start e) (expr_order env start e g)

witness_order : (env : Environment) (start : ℕ) (witness : Option Expr) → IsOption IsOuterExpr witness → Segment start start (start + length (optional spell_witness witness)) (witness_nodes env start witness)
witness_order env start None g = no_nodes start start (start + 0)
witness_order env start (Some e) g = later start (suc start) (suc start + width e) (start + suc (width e)) _ (use_order env (suc start) e g.0) (omega arith) (omega arith)

newtype_width : (x : NewtypeDeclaration) → length (spell_newtype x) ≡ 5 + length (spell_typed x.is_typed) + width x.predicate + length (optional spell_witness x.witness)
newtype_width x = omega (arith, length-append (spell_typed x.is_typed) ((a_sign signs.Bar ∷ spell x.predicate) ++ optional spell_witness x.witness), length-append (a_sign signs.Bar ∷ spell x.predicate) (optional spell_witness x.witness))

newtype_order : (env : Environment) (start : ℕ) (x : NewtypeDeclaration) → IsDeclaration (Newtype x) → Segment start (start + 2) (start + length (spell_declaration (Newtype x))) (newtype_nodes env start x)
newtype_order env start x g =
    let predicate = start + 5 + length (spell_typed x.is_typed) in
    let middle = predicate + width x.predicate in
    let after = start + length (spell_declaration (Newtype x)) in
    let inner = declare env Variable_role x.variable.name in
    let witness = length (optional spell_witness x.witness) in
    let parts = and_then predicate middle middle after (use_nodes inner predicate x.predicate) (witness_nodes env middle x.witness) (use_order inner predicate x.predicate g.0.0)
    (later middle middle (middle + witness) after _ (witness_order env middle x.witness g.1) (omega arith) (omega (arith, newtype_width x))) (omega arith) (omega arith) (omega (arith, newtype_width x)) in
    ended start (start + 2) after (use_nodes inner predicate x.predicate ++ witness_nodes env middle x.witness) _
    (weaker predicate predicate after start (start + 2) after _ parts (omega arith) (omega arith) (omega arith)) (omega (arith, newtype_width x)) refl refl refl (later_apart predicate predicate after _ _ parts (omega arith))

-- ---- methods

parameter_width : (x : Parameter) → length (spell_parameter x) ≡ 3
parameter_width x = omega (arith, type_width x.ty)

one_parameter : (env : Environment) (start : ℕ) (x : Parameter) → Segment start start (start + 3) (token_at env (Node.NewName (names_of env.inner) x.name) start ∷ type_nodes env (start + 2) x.ty)
one_parameter env start x =
    and_then start (suc start) (start + 2) (start + 3) (token_at env (Node.NewName (names_of env.inner) x.name) start ∷ []) _ (token_alone env _ start)
    (later (start + 2) (start + 2) (suc (start + 2)) (start + 3) _ (type_order env (start + 2) x.ty) (omega arith) (omega arith)) (omega arith) (omega arith) (omega arith)

pub parameter_order : (env : Environment) (start : ℕ) (xs : List Parameter) → Segment start start (start + length (separated spell_parameter xs)) (parameter_nodes env start xs)
parameter_order env start [] = no_nodes start start (start + 0)
parameter_order env start (x ∷ []) =
    let all = length (separated spell_parameter (x ∷ [])) in
    and_then start (start + 3) (start + 3) (start + all) _ [] (one_parameter env start x) (no_nodes (start + 3) (start + 3) (start + all)) (omega arith) (omega arith) (omega (arith, separated_one spell_parameter x, parameter_width x))
parameter_order env start (x ∷ y ∷ ys) =
    let all = length (separated spell_parameter (x ∷ y ∷ ys)) in
    let rest = length (separated spell_parameter (y ∷ ys)) in
    and_then start (start + 3) (start + 4) (start + all) _ _ (one_parameter env start x)
    (later (start + 4) (start + 4) (start + 4 + rest) (start + all) _ (parameter_order (declare env Parameter_role x.name.name) (start + 4) (y ∷ ys)) (omega arith) (omega (arith, separated_more spell_parameter x y ys, parameter_width x)))
    (omega arith) (omega arith) (omega (arith, separated_more spell_parameter x y ys, parameter_width x))

parameters_width : (xs : List Parameter) → length (spell_parameters xs) ≡ length (separated spell_parameter xs) + 2
parameters_width xs = omega (arith, length-append (separated spell_parameter xs) (a_sign signs.CloseParenthesis ∷ []))

pub results_order : (env : Environment) (start : ℕ) (results : Option (List Parameter)) → Segment start start (start + length (optional spell_results results)) (parameter_nodes env (start + 2) (results_in results))
results_order env start None = no_nodes start start (start + 0)
results_order env start (Some xs) =
    later start (start + 2) (start + 2 + length (separated spell_parameter xs)) (start + suc (length (spell_parameters xs))) _ (parameter_order env (start + 2) xs) (omega arith) (omega (arith, parameters_width xs))

pub contract_order : (table : Table) (method : MethodDeclaration) (start : ℕ) (clauses : List Clause) → AllByRecursion IsOuterClause clauses → Segment start start (start + clause_widths clauses) (clauses_of_method table method start clauses)
contract_order table method start [] g = no_nodes start start (start + 0)
contract_order table method start (clause ∷ others) g =
    let one = length (spell_clause clause) in
    and_then start (start + one) (start + one) (start + (one + clause_widths others)) _ _ (clause_order (over_clause table method clause) Owner.OfMethod start clause g.0.0)
    (later (start + one) (start + one) (start + one + clause_widths others) (start + (one + clause_widths others)) _ (contract_order table method (start + one) others g.1) (omega arith) (omega arith)) (omega arith) (omega arith) (omega arith)

method_width : (x : MethodDeclaration) → length (spell_method x) ≡ 2 + length (spell_parameters x.parameters) + length (optional spell_results x.results) + clause_widths x.clauses + length (spell_statements x.body.statements) + 2
method_width x = omega (
  arith,
  length-append (spell_parameters x.parameters) (optional spell_results x.results ++ (flat_map spell_clause x.clauses ++ spell_block x.body)),
  length-append (optional spell_results x.results) (flat_map spell_clause x.clauses ++ spell_block x.body),
  length-append (flat_map spell_clause x.clauses) (spell_block x.body),
  clauses_width x.clauses,
  braces_width x.body.pos (spell_statements x.body.statements),
)

pub method_order : (table : Table) (start : ℕ) (x : MethodDeclaration) → IsDeclaration (Method x) → Segment start (start + 2) (start + length (spell_declaration (Method x))) (method_nodes table start x)
method_order table start x g =
    let at_results = start + 2 + length (spell_parameters x.parameters) in
    let at_clauses = at_results + length (optional spell_results x.results) in
    let opening = at_clauses + clause_widths x.clauses in
    let inner = length (spell_statements x.body.statements) in
    let after = start + length (spell_declaration (Method x)) in
    let low = start + 2 in
    weaker low low after start low after _
    (and_then low opening (suc opening) after _ _
    (and_then low at_clauses at_clauses opening _ _
    (and_then low at_results at_results at_clauses _ _
    (later low (start + 3) (start + 3 + length (separated spell_parameter x.parameters)) at_results _ (parameter_order (empty_environment table) (start + 3) x.parameters) (omega arith) (omega (arith, parameters_width x.parameters)))
    (results_order (over_parameters table x) at_results x.results) (omega arith) (omega arith) (omega arith))
    (contract_order table x at_clauses x.clauses g.0) (omega arith) (omega arith) (omega arith))
    (later (suc opening) (suc opening) (suc opening + inner) after _ (statements_order (over_body table x) (suc opening) x.body.statements g.1.0) (omega arith) (omega (arith, method_width x)))
    (omega arith) (omega arith) (omega (arith, method_width x)))
    (omega arith) (omega arith) (omega arith)

-- ---- files

pub declaration_order : (table : Table) (start : ℕ) (x : Declaration) → IsDeclaration x → Segment start (start + 2) (start + length (spell_declaration x)) (declaration_nodes table start x)
declaration_order table start (Newtype x) g = newtype_order (empty_environment table) start x g
declaration_order table start (Method x) g = method_order table start x g

declaration_width : (x : Declaration) → 2 ≤ length (spell_declaration x)
declaration_width (Newtype x) = omega (arith, newtype_width x)
declaration_width (Method x) = omega (arith, method_width x)

pub declarations_order : (table : Table) (before : List ℕ) (start : ℕ) (all : List Declaration) → AllByRecursion IsDeclaration all → Segment start start (start + length (flat_map spell_declaration all)) (declarations_nodes table before start all)
declarations_order table before start [] g = no_nodes start start (start + 0)
declarations_order table before start (x ∷ others) g =
    let one = length (spell_declaration x) in
    let rest = length (flat_map spell_declaration others) in
    let after = start + length (flat_map spell_declaration (x ∷ others)) in
    let size = length-append (spell_declaration x) (flat_map spell_declaration others) in
    let name = token_at (empty_environment table) (Node.NewName before (declared_name x)) (suc start) in
    and_then start (start + one) (start + one) after (name ∷ declaration_nodes table start x) _
    (joined start start (start + 2) (start + one) (name ∷ []) (declaration_nodes table start x)
    (later start (suc start) (suc (suc start)) (start + 2) _ (token_alone (empty_environment table) _ (suc start)) (omega arith) (omega arith))
    (declaration_order table start x g.0) (omega arith) (omega (arith, declaration_width x)))
    (later (start + one) (start + one) (start + one + rest) after _ (declarations_order table _ (start + one) others g.1) (omega arith) (omega (arith, size))) (omega arith) (omega arith) (omega (arith, size))

pub nodes_are_in_order : NodesAreInOrder
nodes_are_in_order file g = all_ordered (file_nodes file) (declarations_order (table_of file) [] 0 file.declarations g).sorted

-- of two nodes at one place the later one is no name
pub names_are_apart : (file : File) → IsFile file → AreApart (file_nodes file)
names_are_apart file g = all_apart (file_nodes file) (declarations_order (table_of file) [] 0 file.declarations g).sorted

-- of two nodes at one place both are told alike
pub nodes_are_alike : (file : File) → IsFile file → AreAllAlike (file_nodes file)
nodes_are_alike file g = all_alike (file_nodes file) (declarations_order (table_of file) [] 0 file.declarations g).sorted
