use Rattle.std.proofs.Common.{◌≤◌, take, length}
use Rattle.std.specs.List.{flat_map}
use Rattle.df_lang.specs.View.{program_of}
use Rattle.df_logtext.specs.View.{logs_of}
use Rattle.df_nowed.specs.Obligation.{obligations_in}
use Rattle.df_nproof.specs.Checking.{AreTaken}
use Rattle.df_nproof.proofs.checking.check_methods.Given as goal

-- the obligations of the methods before this one have their parts
abbrev pub invariant-loop-owed : goal.invariant-loop-owed
invariant-loop-owed l = record {
  within : l.taken ≤ length l.parts;
  taken : AreTaken (program_of l.program) (flat_map obligations_in (take l.owed-index l.methods)) (logs_of l.parts) l.taken;
}
