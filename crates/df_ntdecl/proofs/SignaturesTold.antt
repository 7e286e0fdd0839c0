-- Parameters and results have types, and so has the table.
use Rattle.std.proofs.Common.{◌≡◌, ℕ, suc, ◌+◌, Bool, true, false, ◌==◌, List, [], ◌∷◌, ◌++◌, length, Some, refl, sym, subst}
use Rattle.std.specs.List.{AllByRecursion}
use Rattle.std.proofs.lemmas.Option.{same_Some}
use Rattle.df_lang.specs.Program as program
use Rattle.df_lang.specs.Program.{types_of}
use Rattle.df_ntree.specs.declared.file.Parameter.{Parameter}
use Rattle.df_ntree.specs.Spelling.{optional}
use Rattle.df_ntree.specs.File.{MethodDeclaration, Declaration, Newtype, Method}
use Rattle.df_ntree.specs.FileSpelling.{spell_parameters, spell_results, spell_declaration}
use Rattle.df_ntyping.specs.Table.{Table, NamedMethod, results_of, signature_of, methods_from, method_of}
use Rattle.df_ntyping.specs.Environment.{Environment, Parameter_role}
use Rattle.df_ntyping.specs.Node as nodes
use Rattle.df_ntyping.specs.Node.{Occurrence, OfMethod}
use Rattle.df_ntyping.specs.ExprNodes.{token_at}
use Rattle.df_ntyping.specs.StatementNodes.{clause_widths, statements_nodes}
use Rattle.df_ntyping.specs.FileNodes.{empty_environment, over_parameters, over_body, parameter_nodes, clauses_of_method, method_nodes, declared_name, declaration_nodes, declarations_nodes}
use Rattle.df_ntyping.specs.FileElaboration.{AreParameters}
use Rattle.df_ntyping.specs.Laws.{HaveTexts, IsDeclaredByText}
use Rattle.df_ntyping.proofs.ElaboratedFiles.{params_elaborate}
use Rattle.df_ntyping.proofs.FaultlessNodes.{HasKnown, faultless_of}
use Rattle.df_ntyping.proofs.FirstFault.{Silent, NoNames, named_left, named_right}
use Rattle.df_ntyping.proofs.FirstLocals.{params_signed, declared_same}
use Rattle.df_ntyping.proofs.SoundFiles.{parameters_sound}
use Rattle.df_ntdecl.specs.mirror.Declarations.{params_in}
use Rattle.df_ntstmt.proofs.Judging.{silent_sound}
use Rattle.df_ntdecl.proofs.NewtypesTold.{same_declared}

-- ---- parameters

params_same : (names : List (List ℕ)) (table : Table) (trees : List Parameter) (params : List program.Param) → AreParameters names table trees params → params_in names table trees ≡ params
params_same names table [] params h = sym h
params_same names table (tree ∷ others) params (declared, ty, rest, d, is, hs, q) =
    rw (q, is, same_declared names tree.name declared d, params_same names table others rest hs) refl

-- parameters or results break nothing, and have their types
pub record HasParams (names : List (List ℕ)) (table : Table) (env : Environment) (start : ℕ) (trees : List Parameter) : Type 0 where
  pub quiet : Silent (parameter_nodes env start trees)
  pub are : AreParameters names table trees (params_in names table trees)

params_there : (names : List (List ℕ)) (table : Table) (env : Environment) (start : ℕ) (trees : List Parameter) → env.table ≡ table → HaveTexts names trees → NoNames (parameter_nodes env start trees) → HasParams names table env start trees
params_there names table env start trees e texts n =
    let quiet = silent_sound (parameter_nodes env start trees) (parameters_sound env start trees) n in
    let (params, are) = params_elaborate names table env start trees e texts (faultless_of (parameter_nodes env start trees) quiet.none) in
    record { quiet = quiet; are = subst (λ (all : List program.Param). AreParameters names table trees all) (sym (params_same names table trees params are)) are }

-- ---- the parts of a method

pub record MethodNames (table : Table) (start : ℕ) (x : MethodDeclaration) : Type 0 where
  pub parameters : NoNames (parameter_nodes (empty_environment table) (start + 3) x.parameters)
  pub results : NoNames (parameter_nodes (over_parameters table x) (start + 2 + length (spell_parameters x.parameters) + 2) (results_of x))
  pub clauses : NoNames (clauses_of_method table x (start + 2 + length (spell_parameters x.parameters) + length (optional spell_results x.results)) x.clauses)
  pub body : NoNames (statements_nodes (over_body table x) (suc (start + 2 + length (spell_parameters x.parameters) + length (optional spell_results x.results) + clause_widths x.clauses)) x.body.statements)

pub method_names : (table : Table) (start : ℕ) (x : MethodDeclaration) → NoNames (method_nodes table start x) → MethodNames table start x
method_names table start x n =
    let at_results = start + 2 + length (spell_parameters x.parameters) in
    let at_clauses = at_results + length (optional spell_results x.results) in
    let parameters = parameter_nodes (empty_environment table) (start + 3) x.parameters in
    let results = parameter_nodes (over_parameters table x) (at_results + 2) (results_of x) in
    let clauses = clauses_of_method table x at_clauses x.clauses in
    let three = named_left (parameters ++ results ++ clauses) _ n in
    let two = named_left (parameters ++ results) clauses three in
    record { parameters = named_left parameters results two; results = named_right parameters results two; clauses = named_right (parameters ++ results) clauses three; body = named_right (parameters ++ results ++ clauses) _ n }

pub record HasBoth (names : List (List ℕ)) (table : Table) (start : ℕ) (x : MethodDeclaration) : Type 0 where
  pub parameters : HasParams names table (empty_environment table) (start + 3) x.parameters
  pub results : HasParams names table (over_parameters table x) (start + 2 + length (spell_parameters x.parameters) + 2) (results_of x)

pub both_there : (names : List (List ℕ)) (table : Table) (start : ℕ) (x : MethodDeclaration) → IsDeclaredByText names (Method x) → MethodNames table start x → HasBoth names table start x
both_there names table start x texts n = record {
  parameters = params_there names table (empty_environment table) (start + 3) x.parameters refl texts.1 n.parameters;
  results = params_there names table (over_parameters table x) (start + 2 + length (spell_parameters x.parameters) + 2) (results_of x) (declared_same (empty_environment table) Parameter_role x.parameters).table texts.2 n.results;
}

-- ---- the table

signature_there : (names : List (List ℕ)) (table : Table) (start : ℕ) (x : MethodDeclaration) → HasBoth names table start x → HasKnown (signature_of table.newtypes x)
signature_there names table start x h = record {
  parameter_types = types_of (params_in names table x.parameters);
  result_types = types_of (params_in names table (results_of x));
  parameters = params_signed names table x.parameters (params_in names table x.parameters) h.parameters.are;
  results = params_signed names table (results_of x) (params_in names table (results_of x)) h.results.are;
}

pub inside_declarations : (table : Table) (before : List ℕ) (start : ℕ) (x : Declaration) (others : List Declaration) → NoNames (declarations_nodes table before start (x ∷ others)) → NoNames (declaration_nodes table start x)
inside_declarations table before start x others n =
    named_left (declaration_nodes table start x) _ (named_right (token_at (empty_environment table) (nodes.NewName before (declared_name x)) (suc start) ∷ []) _ n)

pub behind_declaration : (table : Table) (before : List ℕ) (start : ℕ) (x : Declaration) (others : List Declaration) → NoNames (declarations_nodes table before start (x ∷ others)) → NoNames (declarations_nodes table (before ++ (declared_name x).name ∷ []) (start + length (spell_declaration x)) others)
behind_declaration table before start x others n =
    named_right (declaration_nodes table start x) _ (named_right (token_at (empty_environment table) (nodes.NewName before (declared_name x)) (suc start) ∷ []) _ n)

pub methods_known : (names : List (List ℕ)) (table : Table) (before : List ℕ) (start n : ℕ) (trees : List Declaration) → AllByRecursion (IsDeclaredByText names) trees → NoNames (declarations_nodes table before start trees)
    → (name : ℕ) (named : NamedMethod) → method_of (methods_from table.newtypes n trees) name ≡ Some named → HasKnown named.signature
methods_known names table before start n [] texts h name named p = absurd cc
methods_known names table before start n (Newtype x ∷ others) texts h name named p =
    methods_known names table (before ++ x.name.name ∷ []) (start + length (spell_declaration (Newtype x))) (suc n) others texts.1 (behind_declaration table before start (Newtype x) others h) name named p
methods_known names table before start n (Method x ∷ others) texts h name named p =
    by_name (x.name.name == name) refl
    (methods_known names table (before ++ x.name.name ∷ []) (start + length (spell_declaration (Method x))) (suc n) others texts.1 (behind_declaration table before start (Method x) others h) name named) where
      by_name : (b : Bool) → (x.name.name == name) ≡ b → (method_of (methods_from table.newtypes (suc n) others) name ≡ Some named → HasKnown named.signature) → HasKnown named.signature
      by_name true e rest =
          let this : NamedMethod = record { name = x.name.name; id = n; signature = signature_of table.newtypes x } in
          let same : Some this ≡ Some named = rw e at p in
          subst (λ (m : NamedMethod). HasKnown m.signature) (same_Some this named same)
          (signature_there names table start x (both_there names table start x texts.0 (method_names table start x (inside_declarations table before start (Method x) others h))))
      by_name false e rest = rest (rw e at p)
