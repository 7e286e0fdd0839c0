-- The walk over methods.
use Rattle.std.proofs.Common.{◌≡◌, ℕ, suc, ◌+◌, List, [], ◌∷◌, ◌++◌, length, Ok, refl, sym, subst, arith}
use Rattle.std.specs.List.{flat_map}
use Rattle.df_lang.specs.Stmt as typed
use Rattle.df_ntree.specs.declared.file.ConditionKind.TheVariants as conditions
use Rattle.df_ntree.specs.Spelling.{optional}
use Rattle.df_ntree.specs.File.{Clause, Condition, Decreases, MethodDeclaration, Method}
use Rattle.df_ntree.specs.FileSpelling as grammar
use Rattle.df_ntree.specs.FileSpelling.{spell_parameters, spell_results, spell_typed, spell_clause, spell_block, spell_statements, spell_newtype, spell_method, spell_declaration, spell_file, IsFile}
use Rattle.df_ntyping.specs.Literals.{AreInRange}
use Rattle.df_ntyping.specs.Table.{Table, results_of}
use Rattle.df_ntyping.specs.Environment.{Environment, enter}
use Rattle.df_ntyping.specs.LocalTypes.{used_in_clause}
use Rattle.df_ntyping.specs.Node.{Occurrence, OfMethod}
use Rattle.df_ntyping.specs.StatementNodes.{clause_widths, clause_nodes, statements_nodes}
use Rattle.df_ntyping.specs.FileNodes.{empty_environment, over_parameters, over_both, over_body, over_clause, parameter_nodes, clauses_of_method, method_nodes}
use Rattle.df_ntyping.specs.FileElaboration.{IsMethod}
use Rattle.df_ntyping.specs.Laws.{IsDeclaredByText}
use Rattle.df_ntyping.proofs.ElaboratedFiles.{inner_clauses}
use Rattle.df_ntyping.proofs.ElaboratedSides.{IsReady, local_there}
use Rattle.df_ntyping.proofs.FaultlessNodes.{TableKnown, faultless_of}
use Rattle.df_ntyping.proofs.FileOrder.{contract_order}
use Rattle.df_ntyping.proofs.FirstFault.{NoNames, silent_both}
use Rattle.df_ntyping.proofs.Found.{beyond_segment}
use Rattle.df_ntyping.proofs.KeptTypes.{kept_self}
use Rattle.df_ntyping.proofs.Ranges.{inside_braces, each_part}
use Rattle.df_ntyping.proofs.ReadyMethods.{parameters_ready, both_ready, body_walks, body_room, body_ready}
use Rattle.df_ntyping.proofs.StatementOrder.{statements_order}
use Rattle.df_ntyping.proofs.TypedIsWellTyped.{all_left, all_right}
use Rattle.df_ntyping.proofs.Verdict.{HaveTypes}
use Rattle.df_ntstmt.specs.mirror.Steps.{and_then}
use Rattle.df_ntstmt.specs.mirror.Clauses.{Clauses, over_kind}
use Rattle.df_ntstmt.specs.mirror.Statements.{statements_in}
use Rattle.df_ntdecl.specs.mirror.Declarations.{params_in, method_with, contract_in, method_in}
use Rattle.df_ntstmt.proofs.Judging.{Judged, judged_behind, judged_then, judged_last, judged_grouped}
use Rattle.df_ntstmt.proofs.ClausesTold.{AreSaid, kinds_nodes, ClauseTypes, clauses_told}
use Rattle.df_ntstmt.proofs.StatementsTold as walk
use Rattle.df_ntstmt.proofs.StatementsTold.{statements_told}
use Rattle.df_ntdecl.proofs.NewtypesTold.{declared_made}
use Rattle.df_ntdecl.proofs.SignaturesTold.{method_names, both_there}

-- ---- contracts

ready_types : (env : Environment) (all : List ℕ) → IsReady env → HaveTypes env all
ready_types env all ready name local c means = local_there env name local ready means

over_same : (table : Table) (x : MethodDeclaration) (clause : Clause) → over_kind (over_parameters table x) (over_both table x) clause ≡ over_clause table x clause
over_same table x (Condition conditions.Requires pos e) = refl
over_same table x (Condition conditions.Ensures pos e) = refl
over_same table x (Condition conditions.Invariant pos e) = refl
over_same table x (Decreases pos values) = refl

contract_nodes : (table : Table) (x : MethodDeclaration) (start : ℕ) (clauses : List Clause) → kinds_nodes (over_parameters table x) (over_both table x) OfMethod start clauses ≡ clauses_of_method table x start clauses
contract_nodes table x start [] = refl
contract_nodes table x start (clause ∷ others) = λ i. clause_nodes (over_same table x clause i) OfMethod start clause ++ contract_nodes table x (start + length (spell_clause clause)) others i

kind_types : (parameters results : Environment) (clause : Clause) (all : List ℕ) → IsReady parameters → IsReady results → HaveTypes (over_kind parameters results clause) all
kind_types parameters results (Condition conditions.Requires pos e) all p q = ready_types parameters all p
kind_types parameters results (Condition conditions.Ensures pos e) all p q = ready_types results all q
kind_types parameters results (Condition conditions.Invariant pos e) all p q = ready_types parameters all p
kind_types parameters results (Decreases pos values) all p q = ready_types parameters all p

contract_types : (parameters results : Environment) (clauses : List Clause) → IsReady parameters → IsReady results → ClauseTypes parameters results clauses
contract_types parameters results [] p q = tt
contract_types parameters results (clause ∷ others) p q = (kind_types parameters results clause (used_in_clause clause) p q, contract_types parameters results others p q)

-- ---- methods

pub method_told : (names : List (List ℕ)) (table : Table) (start : ℕ) (x : MethodDeclaration) → TableKnown table → IsDeclaredByText names (Method x) → grammar.IsDeclaration (Method x) → AreInRange (spell_method x) → NoNames (method_nodes table start x)
    → Judged (method_nodes table start x) (IsMethod names table x) (method_in names table x)
method_told names table start x t texts g r n =
    let at_results = start + 2 + length (spell_parameters x.parameters) in
    let at_clauses = at_results + length (optional spell_results x.results) in
    let opening = at_clauses + clause_widths x.clauses in
    let inner = length (spell_statements x.body.statements) in
    let parts = method_names table start x n in
    let h = both_there names table start x texts parts in
    let ps = params_in names table x.parameters in
    let rs = params_in names table (results_of x) in
    let at_parameters = parameters_ready names table x ps t h.parameters.are in
    let at_both = both_ready names table x ps rs t h.parameters.are h.results.are in
    let walks = body_walks names table x ps rs t h.parameters.are h.results.are in
    let room = body_room names table x ps rs h.parameters.are h.results.are in
    let whole = over_body table x in
    let first = parameter_nodes (empty_environment table) (start + 3) x.parameters in
    let second = parameter_nodes (over_parameters table x) (at_results + 2) (results_of x) in
    let clauses = clauses_of_method table x at_clauses x.clauses in
    let body = statements_nodes whole (suc opening) x.body.statements in
    let after_parameters = all_right (spell_parameters x.parameters) _ r in
    let after_results = all_right (optional spell_results x.results) _ after_parameters in
    let clauses_range = each_part spell_clause x.clauses (all_left (flat_map spell_clause x.clauses) _ after_results) in
    let body_range = inside_braces x.body.pos (spell_statements x.body.statements) (all_right (flat_map spell_clause x.clauses) _ after_results) in
    let same = contract_nodes table x at_clauses x.clauses in
    let inner_range = inner_clauses x.clauses g.0 in
    judged_grouped (first ++ second) clauses body (IsMethod names table x) (method_in names table x)
    (judged_behind (first ++ second) (clauses ++ body) (IsMethod names table x) (method_in names table x) (silent_both first second h.parameters.quiet h.results.quiet)
    (judged_then at_clauses at_clauses opening clauses body (AreSaid (over_parameters table x) (over_both table x) OfMethod x.clauses) (IsMethod names table x) (contract_in table x)
    (λ (all : Clauses). and_then (statements_in whole x.body.statements) (λ (stmts : typed.Stmts). Ok (method_with names table x all stmts)))
    (contract_order table x at_clauses x.clauses g.0)
    (beyond_segment at_clauses opening (suc opening) (suc opening) (suc opening + inner) body (statements_order whole (suc opening) x.body.statements g.1.0) (omega arith))
    (subst (λ (xs : List Occurrence). Judged xs (AreSaid (over_parameters table x) (over_both table x) OfMethod x.clauses) (contract_in table x)) same
    (clauses_told (over_parameters table x) (over_both table x) OfMethod at_clauses x.clauses inner_range clauses_range (contract_types (over_parameters table x) (over_both table x) x.clauses at_parameters at_both) (subst NoNames (sym same) parts.clauses)))
    (λ all said.
    judged_last body (walk.AreRight whole x.body.statements) (IsMethod names table x) (statements_in whole x.body.statements) (λ (stmts : typed.Stmts). method_with names table x all stmts)
    (statements_told (enter (over_both table x)) whole (suc opening) x.body.statements walks (kept_self whole.types) g.1.0 body_range (omega (arith, room)) parts.body)
    (λ stmts quiet right. record {
      declared = declared_made names x.name texts.0;
      parameters = h.parameters.are;
      results = h.results.are;
      clauses = said.belong;
      preconditions = said.preconditions;
      postconditions = said.postconditions;
      decreases = said.decreases;
      pos = refl;
      body = right (body_ready names table x ps rs (suc opening) t h.parameters.are h.results.are g.1.0 (faultless_of body quiet.none)) (omega (arith, room));
    }))))
