-- The names of what a program declares.
use Rattle.std.specs.Prelude.{◌≡◌, ℕ, List, slice_get, Some}
use Rattle.df_lang.specs.Program.{Decl, NewtypeDecl, MethodDecl, Program}
use Rattle.df_tok.specs.Lexeme.{IsIdentifier, IsWord}

abbrev pub name_of : Decl → List ℕ
name_of (NewtypeDecl newtype) = newtype.declared.text
name_of (MethodDecl method) = method.declared.text

-- Each declaration, by its number, has an identifier as its name, which is no word of the language, and no other has this name.
pub record AreNamed (program : Program) : Type 0 where
  pub identifier : (number : ℕ) (decl : Decl) → slice_get program.decls number ≡ Some decl → IsIdentifier (name_of decl)
  pub no_word : (number : ℕ) (decl : Decl) → slice_get program.decls number ≡ Some decl → IsWord (name_of decl) → ⊥
  pub own : (number other : ℕ) (decl same : Decl) → slice_get program.decls number ≡ Some decl → slice_get program.decls other ≡ Some same → name_of decl ≡ name_of same → number ≡ other
