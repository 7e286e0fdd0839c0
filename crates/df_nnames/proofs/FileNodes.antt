-- What the rules of names tell of the nodes of a file, in the order of the text.
use Rattle.std.proofs.Common.{◌≡◌, ℕ, suc, ◌+◌, Bool, true, false, ◌||◌, cond, List, [], ◌∷◌, ◌++◌, length, drop, Option, Some, None, is_some, refl, sym, ap, ◌∙◌}
use Rattle.std.specs.Prelude.{filter, nat_eq, find, option_map, ◌==◌}
use Rattle.std.specs.List.{flat_map}
use Rattle.std.proofs.lemmas.List.{append-nil}
use Rattle.df_base.specs.declared.refusal.Refusal.{Refusal}
use Rattle.df_ntree.specs.declared.file.Parameter.{Parameter}
use Rattle.df_ntree.specs.declared.file.ConditionKind.TheVariants as conditions
use Rattle.df_ntree.specs.Expr.{Expr}
use Rattle.df_ntree.specs.File.{Clause, Condition, Decreases, NewtypeDeclaration, MethodDeclaration, Declaration, Newtype, Method, File}
use Rattle.df_ntree.specs.FileSpelling.{spell_parameters, spell_results, spell_typed, spell_clause, spell_declaration}
use Rattle.df_ntree.specs.Spelling.{optional}
use Rattle.df_ntyping.specs.Table.{Table, NamedType, NamedMethod, newtype_of, method_of, results_of, table_of}
use Rattle.df_ntyping.specs.Environment.{Environment, Role, Parameter_role, Result_role, Variable_role, enter, declare, declare_parameters, names_of}
use Rattle.df_ntyping.specs.Node as nodes
use Rattle.df_ntyping.specs.Node.{Node, Owner, Occurrence}
use Rattle.df_ntyping.specs.ExprNodes.{width, occurrence, token_at, type_nodes, expr_nodes}
use Rattle.df_ntyping.specs.StatementNodes.{clause_nodes, clause_widths, statements_nodes}
use Rattle.df_ntyping.specs.FileNodes.{empty_environment, over_parameters, over_both, over_body, over_clause, is_use, use_nodes, witness_nodes, newtype_nodes, parameter_nodes, clauses_of_method, method_nodes, declared_name, declaration_nodes, declarations_nodes, file_nodes}
use Rattle.df_ntyping.specs.rules.Names.{is_among}
use Rattle.df_nnames.specs.Scope as scopes
use Rattle.df_nnames.specs.Scope.{Scope, no_locals}
use Rattle.df_nnames.specs.Globals.{Globals, globals_of}
use Rattle.df_nnames.specs.Table.{no_table}
use Rattle.df_nnames.specs.Listing.{is_declared, signature_meant, with_declaration}
use Rattle.df_nnames.specs.Faults.{twice, told_if, expr_faults, new_faults, clause_faults, parameter_faults, with_parameters, scope_of_clause, contract_faults, method_faults, witness_faults, newtype_faults, declaration_faults, declarations_faults, file_faults, statements_faults}
use Rattle.df_nnames.proofs.Entries.{equal_either}
use Rattle.df_nnames.proofs.ExprNodes.{told_at, told, scope_of, told_append, told_whole, told_four, both, type_same, expr_same}
use Rattle.df_nnames.proofs.StatementNodes.{scope_declared, scope_entered, clause_same, statements_same}

-- ---- uses alone

uses_one : (env : Environment) (node : Node) (rest tail : List Refusal) → rest ≡ tail → (start after : ℕ) (others : List Occurrence) → told true others ≡ rest
    → told true (cond (is_use node) (occurrence env node start after ∷ others) others) ≡ told_at false env node ++ tail
uses_one env (nodes.NewName before ident) rest tail e start after others h = h ∙ e
uses_one env (nodes.UsedName ident) rest tail e start after others h = ap (λ (all : List Refusal). told_at false env (nodes.UsedName ident) ++ all) (h ∙ e)
uses_one env (nodes.UsedType ident) rest tail e start after others h = ap (λ (all : List Refusal). told_at false env (nodes.UsedType ident) ++ all) (h ∙ e)
uses_one env node rest tail e start after others h = h ∙ e

uses_told : (xs : List Occurrence) → told true (filter (λ (one : Occurrence). is_use one.node) xs) ≡ told false xs
uses_told [] = refl
uses_told (x ∷ xs) = uses_one x.env x.node _ _ (uses_told xs) x.start x.after (filter (λ (one : Occurrence). is_use one.node) xs) refl

use_same : (env : Environment) (start : ℕ) (e : Expr) → told true (use_nodes env start e) ≡ expr_faults (globals_of env.table) (scope_of env) e
use_same env start e = uses_told (expr_nodes env start e) ∙ expr_same false env start e

-- ---- newtypes

witness_same : (table : Table) (start : ℕ) (witness : Option Expr) → told true (witness_nodes (empty_environment table) start witness) ≡ witness_faults (globals_of table) witness
witness_same table start None = refl
witness_same table start (Some e) = use_same (empty_environment table) (suc start) e

newtype_same : (table : Table) (start : ℕ) (x : NewtypeDeclaration) → told true (newtype_nodes (empty_environment table) start x) ≡ newtype_faults (globals_of table) x
newtype_same table start x =
    let env = empty_environment table in
    let predicate = start + 5 + length (spell_typed x.is_typed) in
    let inner = declare env Variable_role x.variable.name in
    let uses = use_nodes inner predicate x.predicate in
    let witness = witness_nodes env (predicate + width x.predicate) x.witness in
    let whole = occurrence env (nodes.Newtype x) start (start + length (spell_declaration (Newtype x))) in
    told_whole true uses witness whole _ _ refl (use_same inner predicate x.predicate ∙ ap (λ (scope : Scope). expr_faults (globals_of table) scope x.predicate) (scope_declared env Variable_role x.variable.name))
    (witness_same table (predicate + width x.predicate) x.witness)

-- ---- methods

scope_of_parameters : (env : Environment) (role : Role) (all : List Parameter) → scope_of (declare_parameters env role all) ≡ with_parameters (scope_of env) all
scope_of_parameters env role [] = refl
scope_of_parameters env role (x ∷ others) = scope_of_parameters (declare env role x.name.name) role others ∙ ap (λ (scope : Scope). with_parameters scope others) (scope_declared env role x.name.name)

table_of_parameters : (env : Environment) (role : Role) (all : List Parameter) → (declare_parameters env role all).table ≡ env.table
table_of_parameters env role [] = refl
table_of_parameters env role (x ∷ others) = table_of_parameters (declare env role x.name.name) role others

parameters_same : (env : Environment) (start : ℕ) (all : List Parameter) → told true (parameter_nodes env start all) ≡ parameter_faults (globals_of env.table) (scope_of env) all
parameters_same env start [] = refl
parameters_same env start (x ∷ others) =
    let one = declare env Parameter_role x.name.name in
    ap (λ (all : List Refusal). new_faults (scope_of env) x.name ++ all)
    (told_append true (type_nodes env (start + 2) x.ty) (parameter_nodes one (start + 4) others)
    ∙ both _ _ _ _ (type_same true env (start + 2) x.ty) (parameters_same one (start + 4) others ∙ ap (λ (scope : Scope). parameter_faults (globals_of env.table) scope others) (scope_declared env Parameter_role x.name.name)))

module _ (table : Table) (x : MethodDeclaration) where
  parameters_table : (over_parameters table x).table ≡ table
  parameters_table = table_of_parameters (empty_environment table) Parameter_role x.parameters

  parameters_scope : scope_of (over_parameters table x) ≡ with_parameters no_locals x.parameters
  parameters_scope = scope_of_parameters (empty_environment table) Parameter_role x.parameters

  both_table : (over_both table x).table ≡ table
  both_table = table_of_parameters (over_parameters table x) Result_role (results_of x) ∙ parameters_table

  both_scope : scope_of (over_both table x) ≡ with_parameters (with_parameters no_locals x.parameters) (results_of x)
  both_scope = scope_of_parameters (over_parameters table x) Result_role (results_of x) ∙ ap (λ (scope : Scope). with_parameters scope (results_of x)) parameters_scope

  clause_table : (clause : Clause) → (over_clause table x clause).table ≡ table
  clause_table (Condition conditions.Requires pos condition) = parameters_table
  clause_table (Condition conditions.Ensures pos condition) = both_table
  clause_table (Condition conditions.Invariant pos condition) = parameters_table
  clause_table (Decreases pos values) = parameters_table

  clause_scope : (clause : Clause) → scope_of (over_clause table x clause) ≡ scope_of_clause (with_parameters no_locals x.parameters) (with_parameters (with_parameters no_locals x.parameters) (results_of x)) clause
  clause_scope (Condition conditions.Requires pos condition) = parameters_scope
  clause_scope (Condition conditions.Ensures pos condition) = both_scope
  clause_scope (Condition conditions.Invariant pos condition) = parameters_scope
  clause_scope (Decreases pos values) = parameters_scope

  contract_same : (start : ℕ) (clauses : List Clause)
      → told true (clauses_of_method table x start clauses) ≡ flat_map (contract_faults (globals_of table) (with_parameters no_locals x.parameters) (with_parameters (with_parameters no_locals x.parameters) (results_of x))) clauses
  contract_same start [] = refl
  contract_same start (clause ∷ others) =
      let env = over_clause table x clause in
      let at = start + length (spell_clause clause) in
      told_append true (clause_nodes env Owner.OfMethod start clause) (clauses_of_method table x at others)
      ∙ both _ _ _ _ (clause_same env Owner.OfMethod start clause ∙ (λ i. clause_faults (globals_of (clause_table clause i)) (clause_scope clause i) clause)) (contract_same at others)

  method_same : (start : ℕ) → told true (method_nodes table start x) ≡ method_faults (globals_of table) x
  method_same start =
      let at_results = start + 2 + length (spell_parameters x.parameters) in
      let at_clauses = at_results + length (optional spell_results x.results) in
      let opening = at_clauses + clause_widths x.clauses in
      let first = parameter_nodes (empty_environment table) (start + 3) x.parameters in
      let second = parameter_nodes (over_parameters table x) (at_results + 2) (results_of x) in
      let third = clauses_of_method table x at_clauses x.clauses in
      let body = statements_nodes (over_body table x) (suc opening) x.body.statements in
      told_four true first second third body _ _ _ _ (parameters_same (empty_environment table) (start + 3) x.parameters)
      (parameters_same (over_parameters table x) (at_results + 2) (results_of x) ∙ (λ i. parameter_faults (globals_of (parameters_table i)) (parameters_scope i) (results_of x))) (contract_same at_clauses x.clauses) (body_same (suc opening))
    where
      body_same : (at : ℕ) → told true (statements_nodes (over_body table x) at x.body.statements) ≡ statements_faults (globals_of table) (scopes.enter (with_parameters (with_parameters no_locals x.parameters) (results_of x))) x.body.statements
      body_same at =
          statements_same (over_body table x) at x.body.statements
          ∙ (λ i. statements_faults (globals_of (both_table i)) ((scope_entered (over_both table x) ∙ ap scopes.enter both_scope) i) x.body.statements)

-- ---- files

declaration_same : (table : Table) (start : ℕ) (x : Declaration) → told true (declaration_nodes table start x) ≡ declaration_faults (globals_of table) x
declaration_same table start (Newtype x) = newtype_same table start x
declaration_same table start (Method x) = method_same table x start

-- ---- names that are declared

is_some_map : {X Y : Type 0} (f : X → Y) (o : Option X) → is_some (option_map f o) ≡ is_some o
is_some_map f None = refl
is_some_map f (Some x) = refl

found_added : {X : Type 0} (test : X → Bool) (xs : List X) (x : X) → is_some (find test (xs ++ x ∷ [])) ≡ (is_some (find test xs) || test x)
found_added test [] x = by (test x) where
  by : (b : Bool) → is_some (cond b (Some x) None) ≡ (false || b)
  by true = refl
  by false = refl
found_added test (y ∷ ys) x = by (test y) (found_added test ys x) where
  by : (b : Bool) → is_some (find test (ys ++ x ∷ [])) ≡ (is_some (find test ys) || test x) → is_some (cond b (Some y) (find test (ys ++ x ∷ []))) ≡ (is_some (cond b (Some y) (find test ys)) || test x)
  by true h = refl
  by false h = h

newtype_added : (newtypes : List NamedType) (x : NamedType) (name : ℕ) → is_some (newtype_of (newtypes ++ x ∷ []) name) ≡ (is_some (newtype_of newtypes name) || nat_eq name x.name)
newtype_added newtypes x name =
    let test : NamedType → Bool = λ (newtype : NamedType). newtype.name == name in
    is_some_map (λ (newtype : NamedType). newtype.id) (find test (newtypes ++ x ∷ [])) ∙ found_added test newtypes x
    ∙ (λ i. sym (is_some_map (λ (newtype : NamedType). newtype.id) (find test newtypes)) i || equal_either x.name name i)

method_added : (methods : List NamedMethod) (x : NamedMethod) (name : ℕ) → is_some (method_of (methods ++ x ∷ []) name) ≡ (is_some (method_of methods name) || nat_eq name x.name)
method_added methods x name =
    found_added (λ (method : NamedMethod). method.name == name) methods x ∙ ap (λ (b : Bool). is_some (method_of methods name) || b) (equal_either x.name name)

or_assoc : (a b c : Bool) → (a || b) || c ≡ (a || (b || c))
or_assoc true b c = refl
or_assoc false b c = refl

or_swap : (a b c : Bool) → (a || b) || c ≡ ((a || c) || b)
or_swap true b c = refl
or_swap false true true = refl
or_swap false true false = refl
or_swap false false true = refl
or_swap false false false = refl

or_false : (a : Bool) → (a || false) ≡ a
or_false true = refl
or_false false = refl

among_added : (before : List ℕ) (added name : ℕ) → is_among (before ++ added ∷ []) name ≡ (is_among before name || nat_eq name added)
among_added [] added name = or_false (nat_eq name added)
among_added (x ∷ xs) added name = ap (λ (b : Bool). nat_eq name x || b) (among_added xs added name) ∙ sym (or_assoc (nat_eq name x) (is_among xs name) (nat_eq name added))

-- the names of the table are those before
abbrev AreSame : Table → List ℕ → Type 0
AreSame built before = (name : ℕ) → is_declared built name ≡ is_among before name

same_added : (globals : Globals) (built : Table) (before : List ℕ) (id : ℕ) (x : Declaration) → AreSame built before → AreSame (with_declaration globals built id x) (before ++ (declared_name x).name ∷ [])
same_added globals built before id (Newtype x) same name =
    ap (λ (b : Bool). b || is_some (method_of built.methods name)) (newtype_added built.newtypes (record { name = x.name.name; id = id }) name)
    ∙ or_swap (is_some (newtype_of built.newtypes name)) (nat_eq name x.name.name) (is_some (method_of built.methods name))
    ∙ ap (λ (b : Bool). b || nat_eq name x.name.name) (same name) ∙ sym (among_added before x.name.name name)
same_added globals built before id (Method x) same name =
    ap (λ (b : Bool). is_some (newtype_of built.newtypes name) || b) (method_added built.methods (record { name = x.name.name; id = id; signature = signature_meant globals x }) name)
    ∙ sym (or_assoc (is_some (newtype_of built.newtypes name)) (is_some (method_of built.methods name)) (nat_eq name x.name.name))
    ∙ ap (λ (b : Bool). b || nat_eq name x.name.name) (same name) ∙ sym (among_added before x.name.name name)

declarations_same : (table built : Table) (before : List ℕ) (id start : ℕ) (all : List Declaration) → AreSame built before → told true (declarations_nodes table before start all) ≡ declarations_faults (globals_of table) built id all
declarations_same table built before id start [] same = refl
declarations_same table built before id start (x ∷ others) same =
    let name = declared_name x in
    let at = start + length (spell_declaration x) in
    let rest = declarations_nodes table (before ++ name.name ∷ []) at others in
    both _ _ _ _ (ap (λ (b : Bool). told_if b (twice name)) (sym (same name.name)))
    (told_append true (declaration_nodes table start x) rest
    ∙ both _ _ _ _ (declaration_same table start x)
    (declarations_same table (with_declaration (globals_of table) built id x) (before ++ name.name ∷ []) (suc id) at others (same_added (globals_of table) built before id x same)))

pub file_same : (file : File) → told true (file_nodes file) ≡ file_faults file
file_same file = declarations_same (table_of file) no_table [] 0 0 file.declarations (λ name. refl)
