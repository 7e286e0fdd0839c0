use Rattle.std.proofs.Common.{◌≡◌, length}
use Rattle.df_ntree.specs.mirror.Reading.{all_of, next_by, one_or_more}
use Rattle.df_ntree.specs.mirror.FileReading.{parameter_at}
use Rattle.df_ntree.proofs.Repeat.{with_front}
use Rattle.df_npexpr.specs.Rest.{rest_of}
use Rattle.df_npdecl.proofs.declarations.some_parameters.Given as goal

abbrev pub invariant-loop-parameters : goal.invariant-loop-parameters
invariant-loop-parameters l = with_front l.parameters.items (all_of (next_by parameter_at) (rest_of l.cursor)) ≡ one_or_more parameter_at (rest_of l.fn.cursor)

abbrev pub decreases-loop-parameters : goal.decreases-loop-parameters
decreases-loop-parameters l = length (rest_of l.cursor)
