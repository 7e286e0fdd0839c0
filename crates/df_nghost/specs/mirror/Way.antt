-- The way through statements: which locals have a value behind them, and the first use without one. A declaration takes no
-- value away here, since locals are numbered in the order of the text.
use Rattle.std.specs.Prelude.{List, ◌++◌, Option, Some}
use Rattle.std.specs.List.{flat_map}
use Rattle.df_lang.specs.Stmt.{Update, Stmt, Block, Var, Assign, CallOf, If, While, Break, Return, Assert, Print, Stmts, done, next, Branches, no_branch, branch}
use Rattle.df_lang.specs.Program.{Method}
use Rattle.df_lang.specs.Assignment as pure
use Rattle.df_lang.specs.Assignment.{Assigned, Unreached, join, assign_all, reads, reads_of_operand, reads_of_call, reads_of_update, reads_of_clauses, reads_of_measures, results_at}
use Rattle.df_nghost.specs.declared.reads.Use.{Use}
use Rattle.df_nghost.specs.declared.assigned.Assigned as declared
use Rattle.df_nghost.specs.declared.join.Join as declared_join
use Rattle.df_nghost.specs.declared.flow.Flow as declared_flow
use Rattle.df_nghost.specs.mirror.Uses.{pick}
use Rattle.df_nghost.specs.mirror.Known.{assigned_of, joined_of}

pub record Known : Type 0 where
  pub at : Assigned
  pub first : Option Use

abbrev pub known : declared_flow.Flow → Known
known flow = record { at = assigned_of flow.assigned; first = flow.first }

-- of ways that begin at the point
abbrev pub ways_of : declared.Assigned → declared_join.Join → Option Use → Known
ways_of before ways first = record { at = joined_of before ways; first = first }

-- locals are read there
abbrev pub look : Known → List pure.Use → Known
look k uses = record { at = k.at; first = pick k.at k.first uses }

abbrev pub updated : Known → Option Update → Known
updated k update = record { at = assign_all k.at update; first = pick k.at k.first (reads_of_update update) }

abbrev pub returned : Known → Known
returned k = record { at = Unreached; first = k.first }

-- behind a loop, by what is known before it and behind its body
abbrev pub turned : Known → Known → Known
turned k turn = record { at = k.at; first = turn.first }

-- one more way joins those so far
abbrev pub way_of : Known → Known → Known
way_of ways taken = record { at = join ways.at taken.at; first = taken.first }

-- where a way begins, behind the uses on those so far
abbrev pub begun : Assigned → Known → Known
begun before ways = record { at = before; first = ways.first }

abbrev mutual
  pub go : Method → Known → Stmt → Known
  go m k (Block pos body) = go_all m k body
  go m k (Var pos variables update) = updated k update
  go m k (Assign pos update) = updated k (Some update)
  go m k (CallOf call) = look k (reads_of_call call)
  go m k (If branches otherwise) =
      let ways = go_branches m k.at (returned k) branches in
      way_of ways (go_all m (begun k.at ways) otherwise)
  go m k (While pos guard invariants decreases body) =
      turned k (go_all m (look k (reads guard ++ reads_of_clauses invariants ++ reads_of_measures decreases)) body)
  go m k (Break pos) = returned k
  go m k (Return pos update) = returned (look (updated k update) (results_at m pos))
  go m k (Assert pos condition) = look k (reads condition)
  go m k (Print pos operands) = look k (flat_map reads_of_operand operands)

  pub go_all : Method → Known → Stmts → Known
  go_all m k done = k
  go_all m k (next stmt others) = go_all m (go m k stmt) others

  -- from one point, of ways so far
  pub go_branches : Method → Assigned → Known → Branches → Known
  go_branches m before ways no_branch = ways
  go_branches m before ways (branch pos guard body rest) =
      go_branches m before (way_of ways (go_all m (look (begun before ways) (reads guard)) body)) rest
