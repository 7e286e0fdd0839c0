-- Programs whose calls and updates have as many values as are asked for.
use Rattle.std.specs.Prelude.{ℕ, zero, ◌+◌, Bool, true, false, ◌==◌, ◌&&◌, List, [], ◌∷◌, length, Option, None, Some}
use Rattle.std.specs.List.{list_all}
use Rattle.std.specs.Option.{option_map_or}
use Rattle.df_nplain.specs.Stmt.{Call, Source, Single, Results, Update, Stmt, Block, Var, Assign, CallOf, If, While, Break, Return, Print, Stmts, done, next, Branches, no_branch, branch}
use Rattle.df_nplain.specs.Plain.{Method, Plain, method_at, results_at}

-- a method is called that is there, on as many arguments as it has parameters
abbrev pub is_call : Plain → Call → Bool
is_call program call = option_map_or (λ (m : Method). length call.arguments == length m.parameters) (method_at program call.callee) false

abbrev pub is_source : Plain → Source → Bool
is_source program (Single value) = true
is_source program (Results call) = is_call program call

-- how many values the right sides give
abbrev pub count_of : Plain → List Source → ℕ
count_of program [] = zero
count_of program (Single value ∷ sources) = 1 + count_of program sources
count_of program (Results call ∷ sources) = results_at program call.callee + count_of program sources

-- as many values as places
abbrev pub is_update : Plain → Option Update → Bool
is_update program None = true
is_update program (Some update) = list_all (is_source program) update.sources && count_of program update.sources == length update.targets

abbrev mutual
  pub is_stmt : Plain → Stmt → Bool
  is_stmt program (Block body) = are_stmts program body
  is_stmt program (Var variables update) = is_update program update
  is_stmt program (Assign update) = is_update program (Some update)
  is_stmt program (CallOf call) = is_call program call
  is_stmt program (If branches otherwise) = are_branches program branches && are_stmts program otherwise
  is_stmt program (While guard body) = are_stmts program body
  is_stmt program Break = true
  is_stmt program (Return update) = is_update program update
  is_stmt program (Print operands) = true

  pub are_stmts : Plain → Stmts → Bool
  are_stmts program done = true
  are_stmts program (next stmt others) = is_stmt program stmt && are_stmts program others

  pub are_branches : Plain → Branches → Bool
  are_branches program no_branch = true
  are_branches program (branch guard body rest) = are_stmts program body && are_branches program rest

abbrev pub has_counts : Plain → Bool
has_counts program = list_all (λ (m : Method). are_stmts program m.body) program.methods
