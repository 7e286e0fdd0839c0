-- The table of declarations, one after another, where names mean what they do in the whole file.
use Rattle.std.specs.Prelude.{ℕ, suc, Bool, ◌||◌, List, [], ◌∷◌, ◌++◌, map, Option, Some, is_some, option_map}
use Rattle.df_lang.specs.declared.ty.Ty.{Ty}
use Rattle.df_lang.specs.declared.ty.Ty.TheVariants as types
use Rattle.df_ntree.specs.declared.expr.TreeType.{TreeType}
use Rattle.df_ntree.specs.declared.expr.TreeType.TheVariants as trees
use Rattle.df_ntree.specs.declared.file.Parameter.{Parameter}
use Rattle.df_ntree.specs.File.{MethodDeclaration, Declaration, Newtype, Method}
use Rattle.df_ntyping.specs.Types.{basic_type}
use Rattle.df_ntyping.specs.Table.{Signature, Table, newtype_of, method_of, results_of}
use Rattle.df_nnames.specs.Globals.{Globals}

abbrev pub type_meant : Globals → TreeType → Option Ty
type_meant globals (trees.Basic basic pos) = Some (basic_type basic)
type_meant globals (trees.Named ident) = option_map types.Newtype (globals.newtype ident.name)

abbrev pub types_meant : Globals → List Parameter → List (Option Ty)
types_meant globals parameters = map (λ (parameter : Parameter). type_meant globals parameter.ty) parameters

abbrev pub signature_meant : Globals → MethodDeclaration → Signature
signature_meant globals method = record { parameters = types_meant globals method.parameters; results = types_meant globals (results_of method) }

-- the name is that of a newtype or of a method
abbrev pub is_declared : Table → ℕ → Bool
is_declared table name = is_some (newtype_of table.newtypes name) || is_some (method_of table.methods name)

abbrev pub with_declaration : Globals → Table → ℕ → Declaration → Table
with_declaration globals table id (Newtype x) = record { newtypes = table.newtypes ++ record { name = x.name.name; id = id } ∷ []; methods = table.methods }
with_declaration globals table id (Method x) =
    record { newtypes = table.newtypes; methods = table.methods ++ record { name = x.name.name; id = id; signature = signature_meant globals x } ∷ [] }

abbrev pub with_declarations : Globals → Table → ℕ → List Declaration → Table
with_declarations globals table id [] = table
with_declarations globals table id (declaration ∷ others) = with_declarations globals (with_declaration globals table id declaration) (suc id) others
