-- What the walk over a file refuses is the least that the file breaks.
use Rattle.std.proofs.Common.{◌≡◌, ℕ, List, Err}
use Rattle.df_base.specs.Refusing.{IfRefused}
use Rattle.df_base.specs.declared.refusal.Stop.{Stop}
use Rattle.df_base.specs.declared.refusal.Stop.TheVariants as stops
use Rattle.df_ntree.specs.File.{File}
use Rattle.df_ntyping.specs.Literals.{IsReadFile}
use Rattle.df_ntyping.specs.Table.{Table, table_of}
use Rattle.df_ntyping.specs.FileNodes.{file_nodes}
use Rattle.df_ntyping.specs.FileElaboration.{HasNames}
use Rattle.df_ntyping.specs.Laws.{AreTexts}
use Rattle.df_ntyping.specs.Least.{IsToldIn}
use Rattle.df_ntexpr.specs.Replies.{Reply}
use Rattle.df_ntdecl.specs.mirror.Declarations.{declarations_in}
use Rattle.df_ntdecl.proofs.FilesTold.{refused_told}

-- what is told; of want of memory nothing is said
abbrev pub Stops : {Y : Type 0} → Stop → Reply Y → Type 0
Stops (stops.Refused refusal) reply = reply ≡ Err refusal
Stops stops.Memory reply = Unit {0}

pub stopped : (names : List (List ℕ)) (file : File) (table : Table) (stop : Stop) → IsReadFile file → table ≡ table_of file → HasNames file → AreTexts names file → Stops stop (declarations_in names table file.declarations)
    → IfRefused (IsToldIn 1 (file_nodes file)) stop
stopped names file table stops.Memory g e named texts p = tt
stopped names file table (stops.Refused refusal) g e named texts p = refused_told names file table refusal g e named texts p
