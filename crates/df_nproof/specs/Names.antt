-- The names by which logs tell types.
use Rattle.std.specs.Prelude.{◌≡◌, ℕ, List, map, codes, Some}
use Rattle.df_lang.specs.Newtype.{Newtype}
use Rattle.df_lang.specs.Program.{Decl, NewtypeDecl, MethodDecl, Program, newtype_at}
use Rattle.df_logtext.specs.HasText.{IsNamed}

-- A method is no type: no word of a line holds a blank.
abbrev pub name_in : Decl → List ℕ
name_in (NewtypeDecl newtype) = newtype.declared.text
name_in (MethodDecl method) = codes " "

-- the names of the declarations, by their numbers
abbrev pub names_in : Program → List (List ℕ)
names_in program = map name_in program.decls

-- the newtype of each number has a name by which logs tell it alone
abbrev pub HaveTypeNames : Program → Type 0
HaveTypeNames program = (number : ℕ) (newtype : Newtype) → newtype_at program number ≡ Some newtype → IsNamed (names_in program) number
