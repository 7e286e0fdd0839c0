-- The table of a file: what it declares, with signatures. A declaration's number is its place in the source.
use Rattle.std.specs.Prelude.{ℕ, suc, ◌==◌, List, [], ◌∷◌, map, find, Option, Some, None, option_map}
use Rattle.df_lang.specs.declared.ty.Ty.{Ty}
use Rattle.df_lang.specs.declared.ty.Ty.TheVariants as types
use Rattle.df_ntree.specs.declared.expr.TreeType.{TreeType}
use Rattle.df_ntree.specs.declared.expr.TreeType.TheVariants as trees
use Rattle.df_ntree.specs.declared.file.Parameter.{Parameter}
use Rattle.df_ntree.specs.File.{MethodDeclaration, Declaration, Newtype, Method, File}
use Rattle.df_ntyping.specs.Types.{basic_type}

-- the types of the parameters and of the results; a type whose name stands for none is not known
pub record Signature : Type 0 where
  pub parameters : List (Option Ty)
  pub results : List (Option Ty)

pub record NamedType : Type 0 where
  pub name : ℕ
  pub id : ℕ

pub record NamedMethod : Type 0 where
  pub name : ℕ
  pub id : ℕ
  pub signature : Signature

-- the newtypes and the methods, each in the order of the source
pub record Table : Type 0 where
  pub newtypes : List NamedType
  pub methods : List NamedMethod

-- ---- what a name stands for

-- the newtype of this name
abbrev pub newtype_of : List NamedType → ℕ → Option ℕ
newtype_of newtypes name = option_map (λ (newtype : NamedType). newtype.id) (find (λ (newtype : NamedType). newtype.name == name) newtypes)

-- the method of this name
abbrev pub method_of : List NamedMethod → ℕ → Option NamedMethod
method_of methods name = find (λ (method : NamedMethod). method.name == name) methods

-- the type that is written so: locals and methods are not looked at
abbrev pub type_of : List NamedType → TreeType → Option Ty
type_of newtypes (trees.Basic basic pos) = Some (basic_type basic)
type_of newtypes (trees.Named ident) = option_map types.Newtype (newtype_of newtypes ident.name)

-- ---- the table of a file

-- none where `returns` is not written
abbrev pub results_in : Option (List Parameter) → List Parameter
results_in None = []
results_in (Some results) = results

abbrev pub results_of : MethodDeclaration → List Parameter
results_of method = results_in method.results

abbrev pub types_in : List NamedType → List Parameter → List (Option Ty)
types_in newtypes parameters = map (λ (parameter : Parameter). type_of newtypes parameter.ty) parameters

abbrev pub signature_of : List NamedType → MethodDeclaration → Signature
signature_of newtypes method = record { parameters = types_in newtypes method.parameters; results = types_in newtypes (results_of method) }

-- the newtypes of declarations, which are counted from this number
abbrev pub newtypes_from : ℕ → List Declaration → List NamedType
newtypes_from id [] = []
newtypes_from id (Newtype x ∷ others) = record { name = x.name.name; id = id } ∷ newtypes_from (suc id) others
newtypes_from id (Method x ∷ others) = newtypes_from (suc id) others

abbrev pub methods_from : List NamedType → ℕ → List Declaration → List NamedMethod
methods_from newtypes id [] = []
methods_from newtypes id (Newtype x ∷ others) = methods_from newtypes (suc id) others
methods_from newtypes id (Method x ∷ others) = record { name = x.name.name; id = id; signature = signature_of newtypes x } ∷ methods_from newtypes (suc id) others

abbrev pub table_of : File → Table
table_of file =
    let newtypes = newtypes_from 0 file.declarations in
    record { newtypes = newtypes; methods = methods_from newtypes 0 file.declarations }
