use Rattle.std.proofs.Common.{◌≡◌, length, map}
use Rattle.df_ntree.specs.File.{clause_of}
use Rattle.df_ntree.specs.mirror.Reading.{all_of}
use Rattle.df_ntree.proofs.Repeat.{with_front}
use Rattle.df_npexpr.specs.Rest.{rest_of}
use Rattle.df_npdecl.proofs.Rows.{clause_step}
use Rattle.df_npdecl.proofs.parts.clauses.Given as goal

abbrev pub invariant-loop-clauses : goal.invariant-loop-clauses
invariant-loop-clauses l = with_front (map clause_of l.clauses.items) (all_of (clause_step l.fn.room) (rest_of l.cursor)) ≡ all_of (clause_step l.fn.room) (rest_of l.fn.cursor)

abbrev pub decreases-loop-clauses : goal.decreases-loop-clauses
decreases-loop-clauses l = length (rest_of l.cursor)
