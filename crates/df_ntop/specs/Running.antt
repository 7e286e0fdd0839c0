-- What a run of the entry comes to, and a line that is put before it.
use Rattle.std.specs.Prelude.{◌≡◌, ℕ, List}
use Rattle.df_lang.specs.Program.{Program}
use Rattle.df_nmach.specs.State.{Code}
use Rattle.df_ntop.specs.declared.ending.End.{End}
use Rattle.df_ntop.specs.declared.ending.End.TheVariants as ends
use Rattle.df_ntop.specs.declared.machine.Ran.{Ran}
use Rattle.df_ntop.specs.declared.machine.Ran.TheVariants as rans
use Rattle.df_ntop.specs.Call.{Stream, TakesPrefix, Rose}
use Rattle.df_ntop.specs.Run.{RunsMain}

-- the end of a run
abbrev pub end_of : Ran → End
end_of rans.Ended = ends.Done
end_of rans.FuelSpent = ends.FuelSpent
end_of rans.Write = ends.Unwritten
end_of rans.Memory = ends.Memory

-- the run of the entry of this number, with so much fuel, ended so
pub record IsRunEnd (program : Program) (code : Code) (number fuel : ℕ) (out : Stream) (end : End) : Type 0 where
  pub ran : Ran
  pub end_is : end ≡ end_of ran
  pub runs : RunsMain ran program code number fuel out.old out.new
  pub rose : ran ≡ rans.Write → Rose out.before out.after

-- a line was cut off
abbrev pub IsCutLine : List ℕ → Stream → End → Type 0
IsCutLine line s ends.Done = ⊥
IsCutLine line s ends.Unproved = ⊥
IsCutLine line s ends.FuelSpent = ⊥
IsCutLine line s (ends.Told status text) = ⊥
IsCutLine line s ends.Unwritten = Rose s.before s.after × TakesPrefix s line
IsCutLine line s ends.Memory = TakesPrefix s line
