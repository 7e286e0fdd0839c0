-- A file that breaks nothing elaborates.
use Rattle.std.proofs.Common.{◌≡◌, ℕ, suc, ◌+◌, Bool, true, false, List, [], ◌∷◌, ◌++◌, length, Some, refl, sym, ap, subst, ◌∙◌, arith}
use Rattle.std.specs.Prelude.{◌==◌, is_some}
use Rattle.std.specs.List.{AllByRecursion, list_all, list_any}
use Rattle.std.proofs.lemmas.Option.{same_Some}
use Rattle.df_lemmas.proofs.Alls.{all_joined}
use Rattle.df_lemmas.proofs.Lists.{get_below}
use Rattle.df_lang.specs.Newtype as newtypes
use Rattle.df_lang.specs.Program as program
use Rattle.df_lang.specs.Program.{types_of}
use Rattle.df_ntree.specs.declared.tree.Ident.{Ident}
use Rattle.df_ntree.specs.declared.file.Parameter.{Parameter}
use Rattle.df_ntree.specs.declared.file.ConditionKind.TheVariants as conditions
use Rattle.df_ntree.specs.Spelling.{optional}
use Rattle.df_ntree.specs.File.{Clause, Condition, Decreases, NewtypeDeclaration, MethodDeclaration, Declaration, Newtype, Method}
use Rattle.df_ntree.specs.FileSpelling as grammar
use Rattle.df_ntree.specs.FileSpelling.{spell_parameters, spell_results, spell_typed, spell_clause, spell_declaration, IsClause, IsOuterClause}
use Rattle.df_ntyping.specs.Table.{NamedMethod, Table, method_of, methods_from, results_of, signature_of, type_of, table_of}
use Rattle.df_ntyping.specs.Environment.{Environment, Parameter_role, Variable_role, declare}
use Rattle.df_ntyping.specs.Node.{OfMethod}
use Rattle.df_ntyping.specs.Rule.{Range}
use Rattle.df_ntyping.specs.rules.Loops.{belongs, is_decreases}
use Rattle.df_ntyping.specs.rules.Newtypes.{bounds_of}
use Rattle.df_ntyping.specs.ExprNodes.{width, type_nodes, condition_nodes, exprs_nodes}
use Rattle.df_ntyping.specs.StatementNodes.{clause_nodes, clause_widths, statements_nodes}
use Rattle.df_ntyping.specs.FileNodes.{empty_environment, over_parameters, over_both, over_body, use_nodes, witness_nodes, newtype_nodes, parameter_nodes, clauses_of_method, method_nodes, declaration_nodes, declarations_nodes, file_nodes}
use Rattle.df_ntyping.specs.StatementElaboration.{conditions_of, measures_in}
use Rattle.df_ntyping.specs.FileElaboration.{IsDeclared, IsNewtype, AreParameters, IsMethod, AreDeclarations}
use Rattle.df_ntyping.specs.Laws.{HasText, HaveTexts, IsDeclaredByText, FaultlessIsElaborated}
use Rattle.df_ntyping.proofs.NamedFiles.{none_broken_is_named}
use Rattle.df_ntyping.proofs.ClauseExprs.{condition_exprs}
use Rattle.df_ntyping.proofs.AllNodes.{head, tail, left, right}
use Rattle.df_ntyping.proofs.SoundStatements.{IsTyped, IsTrueOrFalse}
use Rattle.df_ntyping.proofs.FirstLocals.{params_signed, declared_same}
use Rattle.df_ntyping.proofs.FaultlessNodes.{AllFaultless, faultless_of, holds_of, some_there, HasKnown, TableKnown}
use Rattle.df_ntyping.proofs.WalkedVariables.{type_there}
use Rattle.df_ntyping.proofs.ElaboratedSides.{IsReady, truth_elaborates}
use Rattle.df_ntyping.proofs.ElaboratedStatements.{exprs_typed, belongs_there, conditions_elaborate, decreases_elaborate, statements_elaborate}
use Rattle.df_ntyping.proofs.ReadyMethods.{parameters_ready, both_ready, body_ready, body_room}

-- ---- names and parameters

pub declared_there : (names : List (List ℕ)) (ident : Ident) → HasText names ident → (declared : newtypes.Declared) × IsDeclared names ident declared
declared_there names ident lt =
    let (text, p) = get_below names ident.name lt in
    (record { name = ident.name; text = text; pos = ident.pos }, (text, p, refl))

pub params_elaborate : (names : List (List ℕ)) (table : Table) (env : Environment) (start : ℕ) (trees : List Parameter) → env.table ≡ table → HaveTexts names trees → AllFaultless (parameter_nodes env start trees)
    → (params : List program.Param) × AreParameters names table trees params
params_elaborate names table env start [] e texts h = ([], refl)
params_elaborate names table env start (tree ∷ others) e texts h =
    let here = type_nodes env (start + 2) tree.ty in
    let (ty, p) = type_there env (start + 2) tree.ty (left here _ (tail h)) in
    let (declared, d) = declared_there names tree.name texts.0 in
    let (rest, are) = params_elaborate names table (declare env Parameter_role tree.name.name) (start + 4) others e texts.1 (right here _ (tail h)) in
    (record { declared = declared; ty = ty; is_ghost = false } ∷ rest, (declared, ty, rest, d, sym (ap (λ (t : Table). type_of t.newtypes tree.ty) e) ∙ p, are, refl))

-- ---- the parts of a method's nodes

pub record MethodNodes (table : Table) (start : ℕ) (x : MethodDeclaration) : Type 0 where
  pub parameters : AllFaultless (parameter_nodes (empty_environment table) (start + 3) x.parameters)
  pub results : AllFaultless (parameter_nodes (over_parameters table x) (start + 2 + length (spell_parameters x.parameters) + 2) (results_of x))
  pub clauses : AllFaultless (clauses_of_method table x (start + 2 + length (spell_parameters x.parameters) + length (optional spell_results x.results)) x.clauses)
  pub body : AllFaultless (statements_nodes (over_body table x) (suc (start + 2 + length (spell_parameters x.parameters) + length (optional spell_results x.results) + clause_widths x.clauses)) x.body.statements)

pub method_parts : (table : Table) (start : ℕ) (x : MethodDeclaration) → AllFaultless (method_nodes table start x) → MethodNodes table start x
method_parts table start x h =
    let at_results = start + 2 + length (spell_parameters x.parameters) in
    let at_clauses = at_results + length (optional spell_results x.results) in
    let parameters = parameter_nodes (empty_environment table) (start + 3) x.parameters in
    let results = parameter_nodes (over_parameters table x) (at_results + 2) (results_of x) in
    let clauses = clauses_of_method table x at_clauses x.clauses in
    let three = left (parameters ++ results ++ clauses) _ h in
    let two = left (parameters ++ results) clauses three in
    record { parameters = left parameters results two; results = right parameters results two; clauses = right (parameters ++ results) clauses three; body = right (parameters ++ results ++ clauses) _ h }

pub record HasParams (names : List (List ℕ)) (table : Table) (x : MethodDeclaration) : Type 0 where
  pub parameters : List program.Param
  pub results : List program.Param
  pub are_parameters : AreParameters names table x.parameters parameters
  pub are_results : AreParameters names table (results_of x) results

params_there : (names : List (List ℕ)) (table : Table) (start : ℕ) (x : MethodDeclaration) → IsDeclaredByText names (Method x) → MethodNodes table start x → HasParams names table x
params_there names table start x texts n =
    let (parameters, p) = params_elaborate names table (empty_environment table) (start + 3) x.parameters refl texts.1 n.parameters in
    let (results, r) = params_elaborate names table (over_parameters table x) _ (results_of x) (declared_same (empty_environment table) Parameter_role x.parameters).table texts.2 n.results in
    record { parameters = parameters; results = results; are_parameters = p; are_results = r }

-- ---- the table

signature_there : (names : List (List ℕ)) (table : Table) (x : MethodDeclaration) → HasParams names table x → HasKnown (signature_of table.newtypes x)
signature_there names table x h = record {
  parameter_types = types_of h.parameters;
  result_types = types_of h.results;
  parameters = params_signed names table x.parameters h.parameters h.are_parameters;
  results = params_signed names table (results_of x) h.results h.are_results;
}

pub methods_known : (names : List (List ℕ)) (table : Table) (before : List ℕ) (start n : ℕ) (trees : List Declaration) → AllByRecursion (IsDeclaredByText names) trees → AllFaultless (declarations_nodes table before start trees)
    → (name : ℕ) (named : NamedMethod) → method_of (methods_from table.newtypes n trees) name ≡ Some named → HasKnown named.signature
methods_known names table before start n [] texts h name named p = absurd cc
methods_known names table before start n (Newtype x ∷ others) texts h name named p =
    methods_known names table (before ++ x.name.name ∷ []) (start + length (spell_declaration (Newtype x))) (suc n) others texts.1 (right (declaration_nodes table start (Newtype x)) _ (tail h)) name named p
methods_known names table before start n (Method x ∷ others) texts h name named p =
    by_name (x.name.name == name) refl
    (methods_known names table (before ++ x.name.name ∷ []) (start + length (spell_declaration (Method x))) (suc n) others texts.1 (right (declaration_nodes table start (Method x)) _ (tail h)) name named) where
      by_name : (b : Bool) → (x.name.name == name) ≡ b → (method_of (methods_from table.newtypes (suc n) others) name ≡ Some named → HasKnown named.signature) → HasKnown named.signature
      by_name true e rest =
          let this : NamedMethod = record { name = x.name.name; id = n; signature = signature_of table.newtypes x } in
          let same : Some this ≡ Some named = rw e at p in
          let parts = method_parts table start x (left (method_nodes table start x) _ (tail h)) in
          subst (λ (m : NamedMethod). HasKnown m.signature) (same_Some this named same) (signature_there names table x (params_there names table start x texts.0 parts))
      by_name false e rest = rest (rw e at p)

-- ---- contracts

pub record HasContract (table : Table) (x : MethodDeclaration) (clauses : List Clause) : Type 0 where
  pub belong : list_all (belongs OfMethod) clauses ≡ true
  pub preconditions : AllByRecursion (IsTrueOrFalse (over_parameters table x)) (conditions_of conditions.Requires clauses)
  pub postconditions : AllByRecursion (IsTrueOrFalse (over_both table x)) (conditions_of conditions.Ensures clauses)
  pub measures : AllByRecursion (IsTyped (over_parameters table x)) (measures_in clauses)

contract_there : (table : Table) (x : MethodDeclaration) (start : ℕ) (clauses : List Clause) → IsReady (over_parameters table x) → IsReady (over_both table x) → AllByRecursion IsOuterClause clauses → AllFaultless (clauses_of_method table x start clauses)
    → HasContract table x clauses
contract_there table x start [] p b g h = record { belong = refl; preconditions = tt; postconditions = tt; measures = tt }
contract_there table x start (Condition conditions.Requires pos e ∷ others) p b g h =
    let clause = Condition conditions.Requires pos e in
    let env = over_parameters table x in
    let here = clause_nodes env OfMethod start clause in
    let rest = contract_there table x (start + length (spell_clause clause)) others p b g.1 (right here _ h) in
    record {
      belong = rest.belong;
      preconditions = (truth_elaborates env (suc start) e p g.0.0 (left (condition_nodes env (suc start) e) _ (left here _ h)), rest.preconditions);
      postconditions = rest.postconditions;
      measures = rest.measures;
    }
contract_there table x start (Condition conditions.Ensures pos e ∷ others) p b g h =
    let clause = Condition conditions.Ensures pos e in
    let env = over_both table x in
    let here = clause_nodes env OfMethod start clause in
    let rest = contract_there table x (start + length (spell_clause clause)) others p b g.1 (right here _ h) in
    record {
      belong = rest.belong;
      preconditions = rest.preconditions;
      postconditions = (truth_elaborates env (suc start) e b g.0.0 (left (condition_nodes env (suc start) e) _ (left here _ h)), rest.postconditions);
      measures = rest.measures;
    }
contract_there table x start (Condition conditions.Invariant pos e ∷ others) p b g h =
    let here = clause_nodes (over_parameters table x) OfMethod start (Condition conditions.Invariant pos e) in
    absurd (let q : false ≡ true = belongs_there (over_parameters table x) OfMethod start (Condition conditions.Invariant pos e) (left here _ h) in cc)
contract_there table x start (Decreases pos values ∷ others) p b g h =
    let clause = Decreases pos values in
    let env = over_parameters table x in
    let here = clause_nodes env OfMethod start clause in
    let rest = contract_there table x (start + length (spell_clause clause)) others p b g.1 (right here _ h) in
    record {
      belong = rest.belong;
      preconditions = rest.preconditions;
      postconditions = rest.postconditions;
      measures = all_joined (IsTyped env) values (measures_in others) (exprs_typed env (suc start) values p g.0.0.1 (left (exprs_nodes env (suc start) values) _ (left here _ h))) rest.measures;
    }

pub inner_clauses : (clauses : List Clause) → AllByRecursion IsOuterClause clauses → AllByRecursion IsClause clauses
inner_clauses [] g = tt
inner_clauses (clause ∷ others) g = (g.0.0, inner_clauses others g.1)

-- ---- declarations

method_elaborates : (names : List (List ℕ)) (table : Table) (start : ℕ) (x : MethodDeclaration) → TableKnown table → IsDeclaredByText names (Method x) → grammar.IsDeclaration (Method x) → AllFaultless (method_nodes table start x)
    → (method : program.Method) × IsMethod names table x method
method_elaborates names table start x t texts g h =
    let parts = method_parts table start x h in
    let params = params_there names table start x texts parts in
    let at_parameters = parameters_ready names table x params.parameters t params.are_parameters in
    let at_both = both_ready names table x params.parameters params.results t params.are_parameters params.are_results in
    let at_body = body_ready names table x params.parameters params.results _ t params.are_parameters params.are_results g.1.0 parts.body in
    let room = body_room names table x params.parameters params.results params.are_parameters params.are_results in
    let contract = contract_there table x _ x.clauses at_parameters at_both g.0 parts.clauses in
    let clauses = inner_clauses x.clauses g.0 in
    let (declared, d) = declared_there names x.name texts.0 in
    let (pre, is_pre) = conditions_elaborate (over_parameters table x) (conditions_of conditions.Requires x.clauses) (condition_exprs conditions.Requires x.clauses clauses) contract.preconditions in
    let (post, is_post) = conditions_elaborate (over_both table x) (conditions_of conditions.Ensures x.clauses) (condition_exprs conditions.Ensures x.clauses clauses) contract.postconditions in
    let (decreases, is_decreases) = decreases_elaborate (over_parameters table x) (list_any is_decreases x.clauses) x.clauses contract.measures in
    let (body, is_body) = statements_elaborate (over_body table x) _ x.body.statements at_body g.1.0 (omega (arith, room)) parts.body in (
      record { declared = declared; parameters = params.parameters; results = params.results; preconditions = pre; postconditions = post; decreases = decreases; pos = x.body.pos; body = body },
      record {
        declared = d;
        parameters = params.are_parameters;
        results = params.are_results;
        clauses = contract.belong;
        preconditions = is_pre;
        postconditions = is_post;
        decreases = is_decreases;
        pos = refl;
        body = is_body;
      },
    )

newtype_elaborates : (names : List (List ℕ)) (table : Table) (start : ℕ) (x : NewtypeDeclaration) → HasText names x.name → AllFaultless (newtype_nodes (empty_environment table) start x) → (newtype : newtypes.Newtype) × IsNewtype names x newtype
newtype_elaborates names table start x text h =
    let predicate = start + 5 + length (spell_typed x.is_typed) in
    let uses = use_nodes (declare (empty_environment table) Variable_role x.variable.name) predicate x.predicate ++ witness_nodes (empty_environment table) (predicate + width x.predicate) x.witness in
    let (declared, d) = declared_there names x.name text in
    let (bounds, p) = some_there (bounds_of x) (holds_of (is_some (bounds_of x)) (λ b. (head (right uses _ h)).holds Range b)) in
    (record { declared = declared; low = bounds.low; high = bounds.high; default = bounds.default }, record { declared = d; bounds = p })

declarations_elaborate : (names : List (List ℕ)) (table : Table) (before : List ℕ) (start : ℕ) (trees : List Declaration) → TableKnown table → AllByRecursion (IsDeclaredByText names) trees → AllByRecursion grammar.IsDeclaration trees
    → AllFaultless (declarations_nodes table before start trees) → (decls : List program.Decl) × AreDeclarations names table trees decls
declarations_elaborate names table before start [] t texts g h = ([], refl)
declarations_elaborate names table before start (Newtype x ∷ others) t texts g h =
    let here = declaration_nodes table start (Newtype x) in
    let (newtype, is) = newtype_elaborates names table start x texts.0 (left here _ (tail h)) in
    let (rest, are) = declarations_elaborate names table (before ++ x.name.name ∷ []) (start + length (spell_declaration (Newtype x))) others t texts.1 g.1 (right here _ (tail h)) in
    (program.NewtypeDecl newtype ∷ rest, (program.NewtypeDecl newtype, rest, (newtype, is, refl), are, refl))
declarations_elaborate names table before start (Method x ∷ others) t texts g h =
    let here = declaration_nodes table start (Method x) in
    let (method, is) = method_elaborates names table start x t texts.0 g.0 (left here _ (tail h)) in
    let (rest, are) = declarations_elaborate names table (before ++ x.name.name ∷ []) (start + length (spell_declaration (Method x))) others t texts.1 g.1 (right here _ (tail h)) in
    (program.MethodDecl method ∷ rest, (program.MethodDecl method, rest, (method, is, refl), are, refl))

pub faultless_is_elaborated : FaultlessIsElaborated
faultless_is_elaborated names file g texts breaks_nothing =
    let h = faultless_of (file_nodes file) breaks_nothing in
    let table : TableKnown (table_of file) = record { methods = methods_known names (table_of file) [] 0 0 file.declarations texts h } in
    let (decls, are) = declarations_elaborate names (table_of file) [] 0 file.declarations table texts g h in
    (record { decls = decls }, record { grammar = g; named = none_broken_is_named file (λ fault broken stage. breaks_nothing fault broken); declarations = are })
