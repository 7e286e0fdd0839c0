-- The entry of a program, and how it is found.
use Rattle.std.specs.Prelude.{ℕ, Bool, false, ◌&&◌, nat_eq, length, codes}
use Rattle.df_base.specs.Names.{same_text}
use Rattle.df_lang.specs.Program.{Method, Decl, NewtypeDecl, MethodDecl, Program}
use Rattle.df_lang.specs.DeclView.{decl_of}
use Rattle.df_lang.specs.declared.decl.Decl as declared
use Rattle.df_meaning.specs.Correct.{IsEntry}

-- the method of this number is the entry
pub record IsEntryAt (program : Program) (number : ℕ) : Type 0 where
  pub method : Method
  pub entry : IsEntry program number method

-- no method is the entry
abbrev pub HasNoEntry : Program → Type 0
HasNoEntry program = (number : ℕ) (method : Method) → IsEntry program number method → ⊥

-- ---- as the code finds it

-- the method is called Main and has no parameters, results or preconditions
abbrev pub is_main : Method → Bool
is_main m =
    same_text m.declared.text (codes "Main") && (nat_eq (length m.parameters) 0 && (nat_eq (length m.results) 0 && nat_eq (length m.preconditions) 0))

-- the declaration is such a method
abbrev pub declares_main : Decl → Bool
declares_main (NewtypeDecl newtype) = false
declares_main (MethodDecl method) = is_main method

-- the same of the code's declaration
abbrev pub declares_main_of : declared.Decl → Bool
declares_main_of d = declares_main (decl_of d)
