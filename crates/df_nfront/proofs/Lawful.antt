-- A source whose program is elaborated and definitely assigned is lawful for it.
use Rattle.std.proofs.Common.{◌≡◌, ℕ, List, sym, subst}
use Rattle.df_lang.specs.Program.{Program}
use Rattle.df_lang.specs.Assignment.{IsDefinitelyAssigned}
use Rattle.df_ntyping.specs.FileElaboration.{ElaboratesFile}
use Rattle.df_nfront.specs.Source.{IsElaborated, IsLawful}

-- the program is handed back as it was
pub lawful_after : (source : List ℕ) (names : List (List ℕ)) (program other : Program) → other ≡ program → IsElaborated source names program → IsDefinitelyAssigned other → IsLawful source other
lawful_after source names program other same elaborated definite = record {
  names = names;
  file = elaborated.file;
  read = elaborated.read;
  elaborates = subst (ElaboratesFile names elaborated.file) (sym same) elaborated.elaborates;
  definite = definite;
}
