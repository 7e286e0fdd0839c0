-- What holds of every command that ends well.
use Rattle.std.specs.Prelude.{◌≡◌, ◌⊎◌, ℕ, List}
use Rattle.df_base.specs.declared.status.Status.{Status}
use Rattle.df_base.specs.declared.status.Status.TheVariants as statuses
use Rattle.df_lang.specs.Program.{Program}
use Rattle.df_form.specs.Log.{Step}
use Rattle.df_ncmd.specs.Line.{Command}
use Rattle.df_nfront.specs.Source.{IsLawful}
use Rattle.df_nproof.specs.Derived.{AreProofs}
use Rattle.df_ntop.specs.Call.{Call, IsLine, IsSourceOf}

-- status 0, or 7
abbrev pub IsAccepting : Status → Type 0
IsAccepting status = (status ≡ statuses.Done) ⊎ (status ≡ statuses.FuelSpent)

-- The source of a program of which each obligation has a log that derives it.
pub record ProvedByLogs (call : Call) (command : Command) : Type 0 where
  pub source : List ℕ
  pub loaded : IsSourceOf call.files command source
  pub program : Program
  pub lawful : IsLawful source program
  pub logs : List (List Step)
  pub proofs : AreProofs program logs

-- Where a command ends with status 0 or 7, that holds.
abbrev pub DerivesAll : Call → Status → Type 0
DerivesAll call status = (command : Command) → IsLine call.words command → IsAccepting status → ProvedByLogs call command
