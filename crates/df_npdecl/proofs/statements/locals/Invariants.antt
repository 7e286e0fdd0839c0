use Rattle.std.proofs.Common.{◌≡◌, length}
use Rattle.df_ntree.specs.mirror.Reading.{all_of, next_by, one_or_more}
use Rattle.df_ntree.specs.mirror.FileReading.{local_at}
use Rattle.df_ntree.proofs.Repeat.{with_front}
use Rattle.df_npexpr.specs.Rest.{rest_of}
use Rattle.df_npdecl.proofs.statements.locals.Given as goal

abbrev pub invariant-loop-locals : goal.invariant-loop-locals
invariant-loop-locals l = with_front l.locals.items (all_of (next_by (local_at l.fn.room)) (rest_of l.cursor)) ≡ one_or_more (local_at l.fn.room) (rest_of l.fn.cursor)

abbrev pub decreases-loop-locals : goal.decreases-loop-locals
decreases-loop-locals l = length (rest_of l.cursor)
