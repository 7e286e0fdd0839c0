-- What a file elaborates to is well typed.
use Rattle.std.proofs.Common.{◌≡◌, ℕ, suc, ◌+◌, ℤ, Bool, true, false, ◌&&◌, List, [], ◌∷◌, ◌++◌, Option, Some, None, refl, subst, arith}
use Rattle.std.specs.Prelude.{◌==◌, slice_get, is_some, int_le}
use Rattle.std.specs.List.{AllByRecursion, list_all, list_any, flat_map}
use Rattle.std.proofs.lemmas.Option.{same_Some}
use Rattle.std.proofs.lemmas.List.Folds.{list_all-append}
use Rattle.df_lemmas.proofs.Options.{test_some}
use Rattle.df_lang.specs.Program as program
use Rattle.df_lang.specs.Program.{Decl, Program, as_newtype, as_method, newtype_at, method_at, types_of}
use Rattle.df_lang.specs.Typing.{is_type, is_method, is_decl}
use Rattle.df_ntree.specs.declared.file.ConditionKind.TheVariants as conditions
use Rattle.df_ntree.specs.Spelling.{optional}
use Rattle.df_ntree.specs.File.{Clause, MethodDeclaration, Declaration, Newtype, Method, File}
use Rattle.df_ntree.specs.FileSpelling as grammar
use Rattle.df_ntree.specs.FileSpelling.{spell_parameters, spell_results, spell_clause, spell_block, spell_statements, spell_method, spell_declaration, spell_file, IsClause, IsOuterClause}
use Rattle.df_ntyping.specs.Literals.{AreInRange}
use Rattle.df_ntyping.specs.Table.{NamedMethod, Table, newtype_of, method_of, newtypes_from, methods_from, results_of, signature_of, table_of}
use Rattle.df_ntyping.specs.rules.Loops.{is_decreases}
use Rattle.df_ntyping.specs.rules.Newtypes.{Ends, Bounds, ends_of, default_of, inside}
use Rattle.df_ntyping.specs.StatementElaboration.{conditions_of}
use Rattle.df_ntyping.specs.FileNodes.{empty_environment, over_parameters, over_both, over_body}
use Rattle.df_ntyping.specs.FileElaboration.{IsMethod, AreDeclarations, ElaboratesFile}
use Rattle.df_ntyping.specs.Laws.{NewtypesHold, ElaboratedIsWellTyped}
use Rattle.df_ntyping.proofs.TypedIsWellTyped.{all_left, all_right}
use Rattle.df_ntyping.proofs.KnownTypes.{TableHolds, IsSignatureOf}
use Rattle.df_ntyping.proofs.Ranges.{conditions_parts, inside_braces}
use Rattle.df_ntyping.proofs.Unmarked.{method_unmarked}
use Rattle.df_ntyping.proofs.StatementsWellTyped.{conditions_good, decreases_good, stmts_good}
use Rattle.df_ntyping.proofs.FirstLocals.{params_signed, params_valid, parameters_fit, both_fit, body_inside}

-- ---- where declarations stand

abbrev Placed : List Decl → List Decl → ℕ → Type 0
Placed all decls n = (k : ℕ) (decl : Decl) → slice_get decls k ≡ Some decl → slice_get all (n + k) ≡ Some decl

first_placed : (all : List Decl) (n : ℕ) (decl : Decl) (others decls : List Decl) → decls ≡ decl ∷ others → Placed all decls n → slice_get all n ≡ Some decl
first_placed all n decl others decls q h = subst (λ (m : ℕ). slice_get all m ≡ Some decl) (omega arith) (h 0 decl (rw q refl))

others_placed : (all : List Decl) (n : ℕ) (decl : Decl) (others decls : List Decl) → decls ≡ decl ∷ others → Placed all decls n → Placed all others (suc n)
others_placed all n decl others decls q h = λ k one p. subst (λ (m : ℕ). slice_get all m ≡ Some one) (omega arith) (h (suc k) one (rw q p))

-- ---- what the table names

newtypes_hold : (one : Program) (names : List (List ℕ)) (table : Table) (n : ℕ) (trees : List Declaration) (decls : List Decl) → Placed one.decls decls n → AreDeclarations names table trees decls
    → (name id : ℕ) → newtype_of (newtypes_from n trees) name ≡ Some id → is_some (newtype_at one id) ≡ true
newtypes_hold one names table n [] decls placed h name id p = absurd cc
newtypes_hold one names table n (Method x ∷ others) decls placed (decl, rest, h, hs, q) name id p =
    newtypes_hold one names table (suc n) others rest (others_placed one.decls n decl rest decls q placed) hs name id p
newtypes_hold one names table n (Newtype x ∷ others) decls placed (decl, rest, (newtype, h, r), hs, q) name id p = by_name (x.name.name == name) refl (newtypes_hold one names table (suc n) others rest (others_placed one.decls n decl rest decls q placed) hs name id) where
  by_name : (b : Bool) → (x.name.name == name) ≡ b → (newtype_of (newtypes_from (suc n) others) name ≡ Some id → is_some (newtype_at one id) ≡ true) → is_some (newtype_at one id) ≡ true
  by_name true e more =
      let found : Some n ≡ Some id = rw e at p in
      let there = first_placed one.decls n decl rest decls q placed in
      rw (← same_Some n id found, there, r) refl
  by_name false e more = more (rw e at p)

-- it is that of a method of the program
abbrev IsFound : Program → NamedMethod → Type 0
IsFound one named = (method : program.Method) × (method_at one named.id ≡ Some method) × IsSignatureOf one method named.signature

methods_hold : (one : Program) (names : List (List ℕ)) (table : Table) → NewtypesHold one (empty_environment table) → (n : ℕ) (trees : List Declaration) (decls : List Decl) → Placed one.decls decls n → AreDeclarations names table trees decls
    → (name : ℕ) (named : NamedMethod) → method_of (methods_from table.newtypes n trees) name ≡ Some named → IsFound one named
methods_hold one names table holds n [] decls placed h name named p = absurd cc
methods_hold one names table holds n (Newtype x ∷ others) decls placed (decl, rest, h, hs, q) name named p =
    methods_hold one names table holds (suc n) others rest (others_placed one.decls n decl rest decls q placed) hs name named p
methods_hold one names table holds n (Method x ∷ others) decls placed (decl, rest, (method, h, r), hs, q) name named p = by_name (x.name.name == name) refl (methods_hold one names table holds (suc n) others rest (others_placed one.decls n decl rest decls q placed) hs name named) where
  by_name : (b : Bool) → (x.name.name == name) ≡ b → (method_of (methods_from table.newtypes (suc n) others) name ≡ Some named → IsFound one named) → IsFound one named
  by_name true e more =
      let there = first_placed one.decls n decl rest decls q placed in
      let this : NamedMethod = record { name = x.name.name; id = n; signature = signature_of table.newtypes x } in
      let same : Some this ≡ Some named = rw e at p in
      let found : IsFound one this = (
        method,
        rw (there, r) refl,
        record {
          parameters = params_signed names table x.parameters method.parameters h.parameters;
          results = params_signed names table (results_of x) method.results h.results;
          valid_parameters = params_valid one names table x.parameters method.parameters holds h.parameters;
          valid_results = params_valid one names table (results_of x) method.results holds h.results;
        },
      ) in
      subst (λ (m : NamedMethod). IsFound one m) (same_Some this named same) found
  by_name false e more = more (rw e at p)

all_placed : (all : List Decl) → Placed all all 0
all_placed all = λ k decl p. subst (λ (m : ℕ). slice_get all m ≡ Some decl) (omega arith) p

table_holds : (names : List (List ℕ)) (file : File) (one : Program) → ElaboratesFile names file one → TableHolds one (table_of file)
table_holds names file one h =
    let newtypes = newtypes_hold one names (table_of file) 0 file.declarations one.decls (all_placed one.decls) h.declarations in
    record { newtypes = newtypes; methods = methods_hold one names (table_of file) newtypes 0 file.declarations one.decls (all_placed one.decls) h.declarations }

-- ---- declarations

clauses_of : (clauses : List Clause) → AllByRecursion IsOuterClause clauses → AllByRecursion IsClause clauses
clauses_of [] g = tt
clauses_of (clause ∷ others) g = (g.0.0, clauses_of others g.1)

method_good : (one : Program) (names : List (List ℕ)) (table : Table) (tree : MethodDeclaration) (method : program.Method) → TableHolds one table → grammar.IsDeclaration (Method tree) → AreInRange (spell_method tree) → IsMethod names table tree method
    → is_method one method ≡ true
method_good one names table tree method t g r h =
    let parameters = types_of method.parameters in
    let both = parameters ++ types_of method.results in
    let behind_parameters = all_right (spell_parameters tree.parameters) (optional spell_results tree.results ++ (flat_map spell_clause tree.clauses ++ spell_block tree.body)) r in
    let behind_results = all_right (optional spell_results tree.results) (flat_map spell_clause tree.clauses ++ spell_block tree.body) behind_parameters in
    let clause_range = all_left (flat_map spell_clause tree.clauses) (spell_block tree.body) behind_results in
    let body_range = inside_braces tree.body.pos (spell_statements tree.body.statements) (all_right (flat_map spell_clause tree.clauses) (spell_block tree.body) behind_results) in
    let at_parameters = parameters_fit one names table tree method t h in
    let at_both = both_fit one names table tree method t h in
    rw (
      list_all-append (is_type one) parameters (types_of method.results),
      params_valid one names table tree.parameters method.parameters t.newtypes h.parameters,
      params_valid one names table (results_of tree) method.results t.newtypes h.results,
      conditions_good (record { program = one; method = method; locals = parameters; in_loop = false }) (over_parameters table tree) (conditions_of conditions.Requires tree.clauses) method.preconditions at_parameters
          (conditions_parts conditions.Requires tree.clauses clause_range) h.preconditions,
      conditions_good (record { program = one; method = method; locals = both; in_loop = false }) (over_both table tree) (conditions_of conditions.Ensures tree.clauses) method.postconditions at_both
          (conditions_parts conditions.Ensures tree.clauses clause_range) h.postconditions,
      decreases_good (record { program = one; method = method; locals = parameters; in_loop = false }) (over_parameters table tree) (list_any is_decreases tree.clauses) tree.clauses method.decreases at_parameters
          (clauses_of tree.clauses g.0) clause_range h.decreases,
    ) (stmts_good (record { program = one; method = method; locals = both; in_loop = false }) (over_body table tree) tree.body.statements method.body (body_inside one names table tree method t h) g.1.0 body_range h.body)

bounds_good : (ends : Option Ends) (default : Option ℤ) (bounds : Bounds) → inside ends default ≡ Some bounds → (int_le bounds.low bounds.default && int_le bounds.default bounds.high) ≡ true
bounds_good None default bounds p = absurd cc
bounds_good (Some ends) None bounds p = absurd cc
bounds_good (Some ends) (Some default) bounds p =
    let this : Bounds = record { low = ends.low; high = ends.high; default = default } in
    let (inside_them, same) = test_some (int_le ends.low default && int_le default ends.high) (Some this) bounds p in
    subst (λ (b : Bounds). (int_le b.low b.default && int_le b.default b.high) ≡ true) (same_Some this bounds same) inside_them

decls_good : (one : Program) (names : List (List ℕ)) (table : Table) (trees : List Declaration) (decls : List Decl) → TableHolds one table → AllByRecursion grammar.IsDeclaration trees → AreInRange (flat_map spell_declaration trees)
    → AreDeclarations names table trees decls → list_all (is_decl one) decls ≡ true
decls_good one names table [] decls t g r h = rw h refl
decls_good one names table (Newtype x ∷ others) decls t g r (decl, rest, (newtype, h, p), hs, q) =
    rw (q, p, bounds_good (ends_of x.variable.name x.predicate) (default_of x.witness) _ h.bounds)
    (decls_good one names table others rest t g.1 (all_right (spell_declaration (Newtype x)) (flat_map spell_declaration others) r) hs)
decls_good one names table (Method x ∷ others) decls t g r (decl, rest, (method, h, p), hs, q) =
    rw (q, p, method_good one names table x method t g.0 (all_left (spell_declaration (Method x)) (flat_map spell_declaration others) r) h, method_unmarked names table x method h)
    (decls_good one names table others rest t g.1 (all_right (spell_declaration (Method x)) (flat_map spell_declaration others) r) hs)

pub elaborated_is_well_typed : ElaboratedIsWellTyped
elaborated_is_well_typed names file one r h = decls_good one names (table_of file) file.declarations one.decls (table_holds names file one h) h.grammar r h.declarations
