-- Elaboration of files: rules on source and program side by side. A file of the grammar, in which each name has one
-- meaning, elaborates declaration by declaration.
use Rattle.std.specs.Prelude.{◌≡◌, ℕ, true, false, Contains, List, [], ◌∷◌, slice_get, Some}
use Rattle.std.specs.List.{list_all}
use Rattle.df_lang.specs.declared.ty.Ty.{Ty}
use Rattle.df_lang.specs.Newtype as types
use Rattle.df_lang.specs.Program as program
use Rattle.df_ntree.specs.declared.tree.Ident.{Ident}
use Rattle.df_ntree.specs.declared.file.Parameter.{Parameter}
use Rattle.df_ntree.specs.declared.file.ConditionKind.TheVariants as conditions
use Rattle.df_ntree.specs.File.{NewtypeDeclaration, MethodDeclaration, Declaration, Newtype, Method, File}
use Rattle.df_ntree.specs.FileSpelling.{IsFile}
use Rattle.df_ntyping.specs.Table.{Table, results_of, type_of, table_of}
use Rattle.df_ntyping.specs.FileNodes.{over_parameters, over_both, over_body, file_nodes}
use Rattle.df_ntyping.specs.Node.{Occurrence, OfMethod}
use Rattle.df_ntyping.specs.rules.Names.{breaks_unknown, breaks_twice}
use Rattle.df_ntyping.specs.rules.Loops.{belongs}
use Rattle.df_ntyping.specs.rules.Newtypes.{bounds_of}
use Rattle.df_ntyping.specs.StatementElaboration.{conditions_of, AreConditions, IsDecreases, AreStatements}

-- names are known by their texts
abbrev pub IsDeclared : List (List ℕ) → Ident → types.Declared → Type 0
IsDeclared names ident declared = (text : List ℕ) × (slice_get names ident.name ≡ Some text) × (declared ≡ record { name = ident.name; text = text; pos = ident.pos })

-- the newtype has these ends and this default
pub record IsNewtype (names : List (List ℕ)) (tree : NewtypeDeclaration) (newtype : types.Newtype) : Type 0 where
  pub declared : IsDeclared names tree.name newtype.declared
  pub bounds : bounds_of tree ≡ Some (record { low = newtype.low; high = newtype.high; default = newtype.default })

-- parameters or results, none of them a ghost
abbrev pub AreParameters : List (List ℕ) → Table → List Parameter → List program.Param → Type 0
AreParameters names table [] params = params ≡ []
AreParameters names table (tree ∷ others) params =
    (declared : types.Declared) × (ty : Ty) × (rest : List program.Param)
    × IsDeclared names tree.name declared × (type_of table.newtypes tree.ty ≡ Some ty) × AreParameters names table others rest
    × (params ≡ record { declared = declared; ty = ty; is_ghost = false } ∷ rest)

-- What callers owe and what decreases is said over the parameters, what the method owes over the results too; the body
-- has both.
pub record IsMethod (names : List (List ℕ)) (table : Table) (tree : MethodDeclaration) (method : program.Method) : Type 0 where
  pub declared : IsDeclared names tree.name method.declared
  pub parameters : AreParameters names table tree.parameters method.parameters
  pub results : AreParameters names table (results_of tree) method.results
  pub clauses : list_all (belongs OfMethod) tree.clauses ≡ true
  pub preconditions : AreConditions (over_parameters table tree) (conditions_of conditions.Requires tree.clauses) method.preconditions
  pub postconditions : AreConditions (over_both table tree) (conditions_of conditions.Ensures tree.clauses) method.postconditions
  pub decreases : IsDecreases (over_parameters table tree) tree.clauses method.decreases
  pub pos : method.pos ≡ tree.body.pos
  pub body : AreStatements (over_body table tree) tree.body.statements method.body

abbrev pub IsDeclaration : List (List ℕ) → Table → Declaration → program.Decl → Type 0
IsDeclaration names table (Newtype tree) decl = (newtype : types.Newtype) × IsNewtype names tree newtype × (decl ≡ program.NewtypeDecl newtype)
IsDeclaration names table (Method tree) decl = (method : program.Method) × IsMethod names table tree method × (decl ≡ program.MethodDecl method)

abbrev pub AreDeclarations : List (List ℕ) → Table → List Declaration → List program.Decl → Type 0
AreDeclarations names table [] decls = decls ≡ []
AreDeclarations names table (tree ∷ others) decls =
    (one : program.Decl) × (rest : List program.Decl) × IsDeclaration names table tree one × AreDeclarations names table others rest × (decls ≡ one ∷ rest)

-- no name is without a meaning, and none is declared twice in a scope
abbrev pub HasNames : File → Type 0
HasNames file =
    (at : Occurrence) → Contains (file_nodes file) at → (breaks_unknown at.env at.node ≡ false) × (breaks_twice at.env at.node ≡ false)

-- The file elaborates to the program.
pub record ElaboratesFile (names : List (List ℕ)) (file : File) (one : program.Program) : Type 0 where
  pub grammar : IsFile file
  pub named : HasNames file
  pub declarations : AreDeclarations names (table_of file) file.declarations one.decls
