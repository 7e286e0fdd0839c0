-- The table of declarations, where names mean what they do in the file, is the table of the file.
use Rattle.std.proofs.Common.{◌≡◌, ℕ, suc, ◌+◌, ◌<◌, ◌≤◌, List, [], ◌∷◌, ◌++◌, map, length, drop, get_or, Option, refl, sym, ap, ◌∙◌, append_assoc, arith}
use Rattle.std.proofs.lemmas.List.{append-nil, drop_all, drop_more}
use Rattle.df_lang.specs.declared.ty.Ty.{Ty}
use Rattle.df_ntree.specs.declared.expr.TreeType.{TreeType}
use Rattle.df_ntree.specs.declared.expr.TreeType.TheVariants as trees
use Rattle.df_ntree.specs.declared.file.Parameter.{Parameter}
use Rattle.df_ntree.specs.File.{MethodDeclaration, Declaration, Newtype, Method, File}
use Rattle.df_ntyping.specs.Table.{Signature, NamedType, NamedMethod, Table, type_of, types_in, signature_of, results_of, newtypes_from, methods_from, table_of}
use Rattle.df_nnames.specs.Table.{no_table}
use Rattle.df_nnames.specs.Globals.{Globals, globals_of}
use Rattle.df_nnames.specs.Listing.{type_meant, types_meant, signature_meant, with_declaration, with_declarations}

type_is : (table : Table) (ty : TreeType) → type_meant (globals_of table) ty ≡ type_of table.newtypes ty
type_is table (trees.Basic basic pos) = refl
type_is table (trees.Named ident) = refl

types_are : (table : Table) (all : List Parameter) → types_meant (globals_of table) all ≡ types_in table.newtypes all
types_are table [] = refl
types_are table (x ∷ others) = λ i. type_is table x.ty i ∷ types_are table others i

signature_is : (table : Table) (x : MethodDeclaration) → signature_meant (globals_of table) x ≡ signature_of table.newtypes x
signature_is table x = λ i. record { parameters = types_are table x.parameters i; results = types_are table (results_of x) i }

listed : (table built : Table) (id : ℕ) (all : List Declaration) → with_declarations (globals_of table) built id all ≡ record { newtypes = built.newtypes ++ newtypes_from id all; methods = built.methods ++ methods_from table.newtypes id all }
listed table built id [] = λ i. record { newtypes = sym (append-nil built.newtypes) i; methods = sym (append-nil built.methods) i }
listed table built id (Newtype x ∷ others) =
    listed table (with_declaration (globals_of table) built id (Newtype x)) (suc id) others
    ∙ (λ i. record { newtypes = append_assoc built.newtypes (record { name = x.name.name; id = id } ∷ []) (newtypes_from (suc id) others) i; methods = built.methods ++ methods_from table.newtypes (suc id) others })
listed table built id (Method x ∷ others) =
    listed table (with_declaration (globals_of table) built id (Method x)) (suc id) others
    ∙ (λ i. record {
      newtypes = built.newtypes ++ newtypes_from (suc id) others;
      methods =
          (append_assoc built.methods (record { name = x.name.name; id = id; signature = signature_meant (globals_of table) x } ∷ []) (methods_from table.newtypes (suc id) others)
          ∙ ap (λ (s : Signature). built.methods ++ record { name = x.name.name; id = id; signature = s } ∷ methods_from table.newtypes (suc id) others) (signature_is table x)) i;
    })

pub table_is : (file : File) (globals : Globals) → globals ≡ globals_of (table_of file) → with_declarations globals no_table 0 file.declarations ≡ table_of file
table_is file globals is = ap (λ (g : Globals). with_declarations g no_table 0 file.declarations) is ∙ listed (table_of file) no_table 0 file.declarations
