-- What names mean outside methods: of declarations of one name the first counts.
use Rattle.std.specs.Prelude.{ℕ, ◌==◌, Bool, false, ◌||◌, List, Option, Some, None, is_some, if◌then◌else◌}
use Rattle.df_ntree.specs.File.{Declaration, Newtype, Method}
use Rattle.df_ntyping.specs.Table.{Table, newtype_of, method_of, newtypes_from, methods_from}

-- the newtype of a name, and whether it is a method's
pub record Globals : Type 0 where
  pub newtype : ℕ → Option ℕ
  pub is_method : ℕ → Bool

abbrev pub globals_of : Table → Globals
globals_of table = record { newtype = newtype_of table.newtypes; is_method = λ (name : ℕ). is_some (method_of table.methods name) }

-- of declarations, which are counted from this number
abbrev pub table_from : ℕ → List Declaration → Table
table_from id declarations = let newtypes = newtypes_from id declarations in record { newtypes = newtypes; methods = methods_from newtypes id declarations }

abbrev pub globals_from : ℕ → List Declaration → Globals
globals_from id declarations = globals_of (table_from id declarations)

-- ---- one declaration after another

abbrev pub no_globals : Globals
no_globals = record { newtype = λ (name : ℕ). None; is_method = λ (name : ℕ). false }

-- the first that is there
abbrev pub or_else : Option ℕ → Option ℕ → Option ℕ
or_else (Some x) other = Some x
or_else None other = other

abbrev pub with_newtype : Globals → ℕ → ℕ → Globals
with_newtype globals added id = record { newtype = λ (name : ℕ). or_else (globals.newtype name) (if added == name then Some id else None); is_method = globals.is_method }

abbrev pub with_method : Globals → ℕ → Globals
with_method globals added = record { newtype = globals.newtype; is_method = λ (name : ℕ). globals.is_method name || (added == name) }

abbrev pub with_declaration : Globals → ℕ → Declaration → Globals
with_declaration globals id (Newtype x) = with_newtype globals x.name.name id
with_declaration globals id (Method x) = with_method globals x.name.name
