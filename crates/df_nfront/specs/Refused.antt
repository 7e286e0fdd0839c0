-- Why a source is refused: for its bytes, for its tokens, or for the file that they spell.
use Rattle.std.specs.Prelude.{ℕ, List, []}
use Rattle.df_base.specs.declared.refusal.Refusal.{Refusal}
use Rattle.df_tok.specs.Token.{Token}
use Rattle.df_tok.specs.Fault.{IsFault}
use Rattle.df_ntree.specs.File.{File}
use Rattle.df_ntree.specs.FileSpelling.{SpellsFile}
use Rattle.df_npdecl.specs.Refusing.{IsRefusal}
use Rattle.df_ntyping.specs.Stages.{IsRefusedFile}
use Rattle.df_nfront.specs.Source.{IsDivided, IsRead}

pub data IsRefused (source : List ℕ) (names : List (List ℕ)) (r : Refusal) : Type 0 where
  -- the bytes: the first fault from the left
  bytes : IsFault [] source r → IsRefused source names r
  -- the tokens: the first word outside the language, or else no file is spelled
  tokens : (all : List Token) → IsDivided source names all → ((one : File) → SpellsFile one all → ⊥) → IsRefusal all r → IsRefused source names r
  -- the file: the least rule of names and types that is broken, or else the first use without a value
  file : (one : File) → IsRead source names one → IsRefusedFile names one r → IsRefused source names r
