use Rattle.std.proofs.Common.{◌≡◌, length, map}
use Rattle.df_ntree.specs.File.{declaration_of}
use Rattle.df_ntree.specs.mirror.Reading.{all_of}
use Rattle.df_ntree.proofs.Repeat.{with_front}
use Rattle.df_npexpr.specs.Rest.{rest_of}
use Rattle.df_npdecl.proofs.Rows.{declaration_step}
use Rattle.df_npdecl.proofs.declarations.declarations.Given as goal

abbrev pub invariant-loop-declarations : goal.invariant-loop-declarations
invariant-loop-declarations l = with_front (map declaration_of l.declarations.items) (all_of declaration_step (rest_of l.cursor)) ≡ all_of declaration_step (rest_of l.fn.cursor)

abbrev pub decreases-loop-declarations : goal.decreases-loop-declarations
decreases-loop-declarations l = length (rest_of l.cursor)
