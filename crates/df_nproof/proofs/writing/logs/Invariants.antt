use Rattle.std.proofs.Common.{◌≡◌, map}
use Rattle.df_logtext.specs.View.{logs_of}
use Rattle.df_nproof.specs.Proofs.{logs_in}
use Rattle.df_nproof.proofs.writing.logs.Given as goal

abbrev pub invariant-loop-of_method : goal.invariant-loop-of_method
invariant-loop-of_method l = logs_of l.logs.items ≡ logs_in (map (λ of_method. of_method.items) l.yielded)
