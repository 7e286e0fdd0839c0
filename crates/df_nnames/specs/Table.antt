-- A table as it lies in memory, and one that grows.
use Rattle.std.specs.Prelude.{ℕ, List, [], ◌∷◌, ◌++◌, map, Some}
use Rattle.df_ntyping.specs.Table.{Signature, NamedType, NamedMethod, Table}
use Rattle.df_nnames.specs.declared.tables.Signature as declared
use Rattle.df_nnames.specs.declared.tables.Method.{Method}

-- a newtype's name and its place
abbrev pub named_type : ℕ × ℕ → NamedType
named_type entry = record { name = entry.0; id = entry.1 }

-- all types are known
abbrev pub signature_of : declared.Signature → Signature
signature_of signature = record { parameters = map Some signature.parameters.items; results = map Some signature.results.items }

abbrev pub named : ℕ → Method → NamedMethod
named name method = record { name = name; id = method.id; signature = signature_of method.signature }

abbrev pub named_method : ℕ × Method → NamedMethod
named_method entry = named entry.0 entry.1

abbrev pub no_table : Table
no_table = record { newtypes = []; methods = [] }

abbrev pub with_newtype : Table → ℕ → ℕ → Table
with_newtype table name id = record { newtypes = table.newtypes ++ record { name = name; id = id } ∷ []; methods = table.methods }

abbrev pub with_method : Table → ℕ → Method → Table
with_method table name method = record { newtypes = table.newtypes; methods = table.methods ++ named name method ∷ [] }
