-- A file that elaborates breaks nothing.
use Rattle.std.proofs.Common.{◌≡◌, ℕ, suc, ◌+◌, Bool, true, false, List, [], ◌∷◌, ◌++◌, length, Option, Some, None, refl}
use Rattle.std.specs.Prelude.{cond, filter}
use Rattle.std.specs.List.{AllByRecursion, list_all, list_any}
use Rattle.df_lemmas.proofs.Alls.{all_front, all_back}
use Rattle.df_lang.specs.Program as program
use Rattle.df_lang.specs.Newtype as newtypes
use Rattle.df_ntree.specs.declared.file.Parameter.{Parameter}
use Rattle.df_ntree.specs.declared.file.ConditionKind.TheVariants as conditions
use Rattle.df_ntree.specs.Expr.{Expr}
use Rattle.df_ntree.specs.File.{Clause, Condition, Decreases, NewtypeDeclaration, MethodDeclaration, Declaration, Newtype, Method, File}
use Rattle.df_ntree.specs.FileSpelling as grammar
use Rattle.df_ntree.specs.FileSpelling.{spell_clause, spell_declaration, IsOuterClause}
use Rattle.df_ntyping.specs.Table.{Table, results_of, table_of}
use Rattle.df_ntyping.specs.Environment.{Environment, Parameter_role, Variable_role, declare, names_of}
use Rattle.df_ntyping.specs.Node as nodes
use Rattle.df_ntyping.specs.Node.{Node, Occurrence, OfMethod}
use Rattle.df_ntyping.specs.Rule.{stage_of}
use Rattle.df_ntyping.specs.Least.{Fault, IsFault}
use Rattle.df_ntyping.specs.ExprNodes.{expr_nodes}
use Rattle.df_ntyping.specs.FileNodes.{empty_environment, over_parameters, over_both, over_body, is_use, witness_nodes, newtype_nodes, parameter_nodes, clauses_of_method, method_nodes, declared_name, declaration_nodes, declarations_nodes, file_nodes}
use Rattle.df_ntyping.specs.StatementElaboration.{conditions_of, measures_in}
use Rattle.df_ntyping.specs.FileElaboration.{IsNewtype, IsMethod, IsDeclaration, AreDeclarations}
use Rattle.df_ntyping.specs.rules.Loops.{belongs, is_decreases}
use Rattle.df_ntyping.specs.Laws.{ElaboratedIsFaultless}
use Rattle.df_ntyping.proofs.NamedFiles.{named_breaks_none}
use Rattle.df_ntyping.proofs.AllNodes.{none, front, only, both, there}
use Rattle.df_ntyping.proofs.SoundNodes as kinds
use Rattle.df_ntyping.proofs.SoundNodes.{IsSound, AllSound, sound}
use Rattle.df_ntyping.proofs.SoundStatements.{type_sound, IsTyped, IsTrueOrFalse, all_conditions, given_measures, condition_clause, measure_clause, statements_sound}

-- ---- newtypes

use_sound : (env : Environment) (node : Node) → is_use node ≡ true → IsSound env node
use_sound env (nodes.UsedName ident) p = kinds.used_name env ident
use_sound env (nodes.UsedType ident) p = kinds.used_type env ident
use_sound env node p = absurd cc

pub some_sound : (all : List Occurrence) → AllSound (filter (λ (one : Occurrence). is_use one.node) all)
some_sound [] = none
some_sound (one ∷ others) = keep (is_use one.node) refl (some_sound others) where
  keep : (b : Bool) → is_use one.node ≡ b → AllSound (filter (λ (x : Occurrence). is_use x.node) others)
      → AllSound (cond b (one ∷ filter (λ (x : Occurrence). is_use x.node) others) (filter (λ (x : Occurrence). is_use x.node) others))
  keep true p h = front (record { holds = use_sound one.env one.node p }) h
  keep false p h = h

pub witness_sound : (env : Environment) (start : ℕ) (witness : Option Expr) → AllSound (witness_nodes env start witness)
witness_sound env start None = none
witness_sound env start (Some e) = some_sound (expr_nodes env (suc start) e)

newtype_sound : (names : List (List ℕ)) (env : Environment) (start : ℕ) (x : NewtypeDeclaration) (newtype : newtypes.Newtype) → IsNewtype names x newtype → AllSound (newtype_nodes env start x)
newtype_sound names env start x newtype h =
    both (both (some_sound (expr_nodes (declare env Variable_role x.variable.name) _ x.predicate)) (witness_sound env _ x.witness)) (only (sound (kinds.newtype env x (rw (h.bounds) refl))))

-- ---- methods

pub parameters_sound : (env : Environment) (start : ℕ) (parameters : List Parameter) → AllSound (parameter_nodes env start parameters)
parameters_sound env start [] = none
parameters_sound env start (x ∷ others) =
    front (sound (kinds.new_name env (names_of env.inner) x.name)) (both (type_sound env (start + 2) x.ty) (parameters_sound (declare env Parameter_role x.name.name) (start + 4) others))

contract_sound : (table : Table) (method : MethodDeclaration) (start : ℕ) (clauses : List Clause) → AllByRecursion IsOuterClause clauses → list_all (belongs OfMethod) clauses ≡ true
    → AllByRecursion (IsTrueOrFalse (over_parameters table method)) (conditions_of conditions.Requires clauses) → AllByRecursion (IsTrueOrFalse (over_both table method)) (conditions_of conditions.Ensures clauses)
    → (list_any is_decreases clauses ≡ true → AllByRecursion (IsTyped (over_parameters table method)) (measures_in clauses)) → AllSound (clauses_of_method table method start clauses)
contract_sound table method start [] g b r e m = none
contract_sound table method start (Condition conditions.Requires pos x ∷ others) g b r e m =
    both (condition_clause (over_parameters table method) OfMethod start conditions.Requires pos x g.0.0 refl r.0)
    (contract_sound table method (start + length (spell_clause (Condition conditions.Requires pos x))) others g.1 b r.1 e m)
contract_sound table method start (Condition conditions.Ensures pos x ∷ others) g b r e m =
    both (condition_clause (over_both table method) OfMethod start conditions.Ensures pos x g.0.0 refl e.0)
    (contract_sound table method (start + length (spell_clause (Condition conditions.Ensures pos x))) others g.1 b r e.1 m)
contract_sound table method start (Condition conditions.Invariant pos x ∷ others) g b r e m = absurd cc
contract_sound table method start (Decreases pos values ∷ others) g b r e m =
    both (measure_clause (over_parameters table method) OfMethod start pos values g.0.0.1 refl (all_front (IsTyped (over_parameters table method)) values (measures_in others) (m refl)))
    (contract_sound table method (start + length (spell_clause (Decreases pos values))) others g.1 b r e (λ p. all_back (IsTyped (over_parameters table method)) values (measures_in others) (m refl)))

method_sound : (names : List (List ℕ)) (table : Table) (start : ℕ) (x : MethodDeclaration) (method : program.Method) → grammar.IsDeclaration (Method x) → IsMethod names table x method → AllSound (method_nodes table start x)
method_sound names table start x method g h =
    both (both (both (parameters_sound (empty_environment table) (start + 3) x.parameters) (parameters_sound (over_parameters table x) _ (results_of x)))
    (contract_sound table x _ x.clauses g.0 h.clauses
    (all_conditions (over_parameters table x) (conditions_of conditions.Requires x.clauses) method.preconditions h.preconditions)
    (all_conditions (over_both table x) (conditions_of conditions.Ensures x.clauses) method.postconditions h.postconditions)
    (given_measures (over_parameters table x) (list_any is_decreases x.clauses) x.clauses method.decreases h.decreases)))
    (statements_sound (over_body table x) _ x.body.statements method.body g.1.0 h.body)

-- ---- files

declaration_sound : (names : List (List ℕ)) (table : Table) (start : ℕ) (x : Declaration) (decl : program.Decl) → grammar.IsDeclaration x → IsDeclaration names table x decl → AllSound (declaration_nodes table start x)
declaration_sound names table start (Newtype x) decl g (newtype, h, q) = newtype_sound names (empty_environment table) start x newtype h
declaration_sound names table start (Method x) decl g (method, h, q) = method_sound names table start x method g h

declarations_sound : (names : List (List ℕ)) (table : Table) (before : List ℕ) (start : ℕ) (all : List Declaration) (decls : List program.Decl) → AllByRecursion grammar.IsDeclaration all → AreDeclarations names table all decls
    → AllSound (declarations_nodes table before start all)
declarations_sound names table before start [] decls g h = none
declarations_sound names table before start (x ∷ others) decls g (one, rest, h, hs, q) =
    front (sound (kinds.new_name (empty_environment table) before (declared_name x)))
    (both (declaration_sound names table start x one g.0 h) (declarations_sound names table (before ++ (declared_name x).name ∷ []) (start + length (spell_declaration x)) others rest g.1 hs))

-- by stages: names have their meanings
stages_sound : (file : File) (fault : Fault) → IsFault (file_nodes file) fault → (stage_of fault.rule ≡ 0 → ⊥) → AllSound (file_nodes file) → ⊥
stages_sound file fault h n all = (there (file_nodes file) fault.at all h.0).holds fault.rule n h.1

pub elaborated_is_faultless : ElaboratedIsFaultless
elaborated_is_faultless names file one h fault broken =
    stages_sound file fault broken (named_breaks_none file h.named fault broken) (declarations_sound names (table_of file) [] 0 file.declarations one.decls h.grammar h.declarations)
