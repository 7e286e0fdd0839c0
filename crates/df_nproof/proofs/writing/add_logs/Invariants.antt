use Rattle.std.proofs.Common.{◌≡◌, ◌++◌, map}
use Rattle.df_logtext.specs.View.{logs_of}
use Rattle.df_nproof.specs.Proofs.{log_in}
use Rattle.df_nproof.proofs.writing.add_logs.Given as goal

abbrev pub invariant-loop-proof : goal.invariant-loop-proof
invariant-loop-proof l = logs_of l.logs.items ≡ logs_of l.initial.logs.items ++ map log_in l.yielded
