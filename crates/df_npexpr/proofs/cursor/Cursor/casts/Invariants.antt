use Rattle.std.proofs.Common.{◌≡◌, length}
use Rattle.df_ntree.specs.mirror.Reading.{all_of}
use Rattle.df_ntree.proofs.Repeat.{with_front}
use Rattle.df_npexpr.specs.Rest.{rest_of}
use Rattle.df_npexpr.proofs.Readers.{cast_step}
use Rattle.df_npexpr.proofs.cursor.Cursor.casts.Given as goal

abbrev pub invariant-loop-types : goal.invariant-loop-types
invariant-loop-types l = with_front l.types.items (all_of cast_step (rest_of l.self)) ≡ all_of cast_step (rest_of l.fn.self)

abbrev pub decreases-loop-types : goal.decreases-loop-types
decreases-loop-types l = length (rest_of l.self)
