-- Why a file is refused that its tokens spell: for the least rule of names and types that it breaks; else its program for
-- the first use of a local without a value.
use Rattle.std.specs.Prelude.{ℕ, List}
use Rattle.df_base.specs.declared.refusal.Refusal.{Refusal}
use Rattle.df_lang.specs.Program.{Program}
use Rattle.df_ntree.specs.File.{File}
use Rattle.df_ntyping.specs.FileNodes.{file_nodes}
use Rattle.df_ntyping.specs.FileElaboration.{ElaboratesFile}
use Rattle.df_ntyping.specs.Least.{IsTold}
use Rattle.df_ntyping.specs.Unassigned.{IsToldMissing}

pub data IsRefusedFile (names : List (List ℕ)) (file : File) (refusal : Refusal) : Type 0 where
  rules : IsTold (file_nodes file) refusal → IsRefusedFile names file refusal
  values : (program : Program) → ElaboratesFile names file program → IsToldMissing program refusal → IsRefusedFile names file refusal
