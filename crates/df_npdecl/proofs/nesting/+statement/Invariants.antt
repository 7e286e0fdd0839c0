use Rattle.std.proofs.Common.{◌≡◌, ◌+◌, ◌*◌, length, map}
use Rattle.df_ntree.specs.File.{statement_of, branch_of}
use Rattle.df_ntree.specs.mirror.Reading.{all_of}
use Rattle.df_ntree.proofs.Repeat.{with_front}
use Rattle.df_npexpr.specs.Rest.{rest_of}
use Rattle.df_npdecl.proofs.Rows.{statement_step, else_if_step}
use Rattle.df_npdecl.proofs.nesting.+statement.Given as goal

abbrev pub decreases-statement : goal.decreases-statement
decreases-statement l = l.room * 100 + 50

abbrev pub decreases-statement_by_kind : goal.decreases-statement_by_kind
decreases-statement_by_kind l = l.room * 100 + 40

abbrev pub decreases-block : goal.decreases-block
decreases-block l = l.room * 100 + 30

abbrev pub decreases-braces : goal.decreases-braces
decreases-braces l = l.room * 100 + 90

abbrev pub decreases-statements : goal.decreases-statements
decreases-statements l = l.room * 100 + 80

abbrev pub decreases-next_statement : goal.decreases-next_statement
decreases-next_statement l = l.room * 100 + 70

abbrev pub decreases-if_statement : goal.decreases-if_statement
decreases-if_statement l = l.room * 100 + 95

abbrev pub decreases-while_statement : goal.decreases-while_statement
decreases-while_statement l = l.room * 100 + 85

abbrev pub decreases-branch : goal.decreases-branch
decreases-branch l = l.room * 100 + 85

abbrev pub decreases-else_ifs : goal.decreases-else_ifs
decreases-else_ifs l = l.room * 100 + 92

abbrev pub decreases-next_else_if : goal.decreases-next_else_if
decreases-next_else_if l = l.room * 100 + 91

abbrev pub decreases-otherwise : goal.decreases-otherwise
decreases-otherwise l = l.room * 100 + 86

abbrev pub invariant-statements-loop-statements : goal.invariant-statements-loop-statements
invariant-statements-loop-statements l = with_front (map statement_of l.statements.items) (all_of (statement_step l.fn.room) (rest_of l.cursor)) ≡ all_of (statement_step l.fn.room) (rest_of l.fn.cursor)

abbrev pub decreases-statements-loop-statements : goal.decreases-statements-loop-statements
decreases-statements-loop-statements l = length (rest_of l.cursor)

abbrev pub invariant-else_ifs-loop-branches : goal.invariant-else_ifs-loop-branches
invariant-else_ifs-loop-branches l = with_front (map branch_of l.branches.items) (all_of (else_if_step l.fn.room) (rest_of l.cursor)) ≡ all_of (else_if_step l.fn.room) (rest_of l.fn.cursor)

abbrev pub decreases-else_ifs-loop-branches : goal.decreases-else_ifs-loop-branches
decreases-else_ifs-loop-branches l = length (rest_of l.cursor)
