-- Which declarations call which, and groups of those that call each other.
use Rattle.std.specs.Prelude.{◌≡◌, ◌≤◌, ◌<◌, ℕ, List, [], ◌∷◌, ◌++◌, length, Contains, slice_index_or, Option, None, Some}
use Rattle.std.specs.Option.{option_map_or}
use Rattle.std.specs.List.{flat_map}
use Rattle.df_lang.specs.Stmt.{Source, Single, Results, Update, Stmt, Block, Var, Assign, CallOf, If, While, Break, Return, Assert, Print, Stmts, done, next, Branches, no_branch, branch}
use Rattle.df_lang.specs.Program.{Method, Program, method_at}

abbrev pub callees_of_source : Source → List ℕ
callees_of_source (Single ty value) = []
callees_of_source (Results call results) = call.callee ∷ []

abbrev pub callees_of_update : Option Update → List ℕ
callees_of_update None = []
callees_of_update (Some update) = flat_map callees_of_source update.sources

abbrev mutual
  -- the numbers of the methods that a statement calls
  pub callees : Stmt → List ℕ
  callees (Block pos body) = callees_of_all body
  callees (Var pos variables update) = callees_of_update update
  callees (Assign pos update) = callees_of_update (Some update)
  callees (CallOf call) = call.callee ∷ []
  callees (If branches otherwise) = callees_of_branches branches ++ callees_of_all otherwise
  callees (While pos guard invariants decreases body) = callees_of_all body
  callees (Break pos) = []
  callees (Return pos update) = callees_of_update update
  callees (Assert pos condition) = []
  callees (Print pos operands) = []

  pub callees_of_all : Stmts → List ℕ
  callees_of_all done = []
  callees_of_all (next stmt others) = callees stmt ++ callees_of_all others

  pub callees_of_branches : Branches → List ℕ
  callees_of_branches no_branch = []
  callees_of_branches (branch pos guard body rest) = callees_of_all body ++ callees_of_branches rest

abbrev pub callees_at : Program → ℕ → List ℕ
callees_at program id = option_map_or (λ (method : Method). callees_of_all method.body) (method_at program id) []

-- the one comes to the other by calls: none, or one and then others
pub data Reaches (program : Program) : ℕ → ℕ → Type 0 where
  by_none : {one : ℕ} → Reaches program one one
  by_call : {one callee other : ℕ} → Contains (callees_at program one) callee → Reaches program callee other → Reaches program one other

-- the number of the group of a declaration
abbrev pub group_at : List ℕ → ℕ → ℕ
group_at groups declaration = slice_index_or groups declaration 0

-- Two declarations are of one group where each comes to the other; a call goes to a group that is no later.
pub record AreGroups (program : Program) (groups : List ℕ) : Type 0 where
  pub each : length groups ≡ length program.decls
  pub ordered : (caller callee : ℕ) → Contains (callees_at program caller) callee → group_at groups callee ≤ group_at groups caller
  pub together : (one other : ℕ) → one < length groups → other < length groups → Reaches program one other → Reaches program other one → group_at groups one ≡ group_at groups other
  pub apart : (one other : ℕ) → one < length groups → other < length groups → group_at groups one ≡ group_at groups other → Reaches program one other
