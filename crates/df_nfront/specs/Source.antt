-- Lawful sources.
use Rattle.std.specs.Prelude.{◌≡◌, ℕ, ◌≤◌, true, List, [], length, Some}
use Rattle.df_lang.specs.Program.{Method, Program, method_at}
use Rattle.df_lang.specs.Assignment.{IsDefinitelyAssigned}
use Rattle.df_nmach.specs.Name.{is_name}
use Rattle.df_tok.specs.Token.{Token}
use Rattle.df_tok.specs.Division.{Divides}
use Rattle.df_tok.specs.Limits.{byte_limit, token_limit}
use Rattle.df_ntree.specs.File.{File}
use Rattle.df_ntree.specs.FileSpelling.{SpellsFile}
use Rattle.df_ntyping.specs.FileElaboration.{ElaboratesFile}

-- within the limits the bytes divide into these tokens; the names are the texts of identifiers in order of first use
pub record IsDivided (source : List ℕ) (names : List (List ℕ)) (tokens : List Token) : Type 0 where
  pub short : length source ≤ byte_limit
  pub divided : Divides [] source tokens names
  pub few : length tokens ≤ token_limit

-- and the tokens spell the file
pub record IsRead (source : List ℕ) (names : List (List ℕ)) (file : File) : Type 0 where
  pub tokens : List Token
  pub divided : IsDivided source names tokens
  pub spelled : SpellsFile file tokens

-- and the file elaborates to the program
pub record IsElaborated (source : List ℕ) (names : List (List ℕ)) (program : Program) : Type 0 where
  pub file : File
  pub read : IsRead source names file
  pub elaborates : ElaboratesFile names file program

-- A source is lawful for a program: within the limits its bytes divide into tokens, these spell a file, the
-- file elaborates to the program, and each local has a value where it is read, and each result where its method returns.
pub record IsLawful (source : List ℕ) (program : Program) : Type 0 where
  pub names : List (List ℕ)
  pub file : File
  pub read : IsRead source names file
  pub elaborates : ElaboratesFile names file program
  pub definite : IsDefinitelyAssigned program

-- the source is lawful for no program
abbrev pub IsUnlawful : List ℕ → Type 0
IsUnlawful source = (program : Program) → IsLawful source program → ⊥

-- the method of each number has a name that the machine takes
abbrev pub HasNames : Program → Type 0
HasNames program = (number : ℕ) (method : Method) → method_at program number ≡ Some method → is_name method.declared.text ≡ true
