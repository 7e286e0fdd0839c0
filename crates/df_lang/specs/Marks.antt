-- Marks of ghosts. No rule on ghost code stands yet, so nothing of a well-typed program is marked.
use Rattle.std.specs.Prelude.{Bool, true, not, ◌&&◌, List}
use Rattle.std.specs.List.{list_all}
use Rattle.df_lang.specs.Stmt.{Variable, Stmt, Block, Var, Assign, CallOf, If, While, Break, Return, Assert, Print, Stmts, done, next, Branches, no_branch, branch}
use Rattle.df_lang.specs.Program.{Param, Method}

abbrev pub are_unmarked_variables : List Variable → Bool
are_unmarked_variables variables = list_all (λ (variable : Variable). not variable.is_ghost) variables

abbrev pub are_unmarked_params : List Param → Bool
are_unmarked_params params = list_all (λ (param : Param). not param.is_ghost) params

abbrev mutual
  pub is_unmarked : Stmt → Bool
  is_unmarked (Block pos body) = are_unmarked body
  is_unmarked (Var pos variables update) = are_unmarked_variables variables
  is_unmarked (Assign pos update) = true
  is_unmarked (CallOf call) = true
  is_unmarked (If branches otherwise) = are_unmarked_branches branches && are_unmarked otherwise
  is_unmarked (While pos guard invariants decreases body) = are_unmarked body
  is_unmarked (Break pos) = true
  is_unmarked (Return pos update) = true
  is_unmarked (Assert pos condition) = true
  is_unmarked (Print pos operands) = true

  pub are_unmarked : Stmts → Bool
  are_unmarked done = true
  are_unmarked (next stmt others) = is_unmarked stmt && are_unmarked others

  pub are_unmarked_branches : Branches → Bool
  are_unmarked_branches no_branch = true
  are_unmarked_branches (branch pos guard body rest) = are_unmarked body && are_unmarked_branches rest

-- no variable, parameter or result is marked
abbrev pub has_no_ghost : Method → Bool
has_no_ghost m = are_unmarked_params m.parameters && are_unmarked_params m.results && are_unmarked m.body
