-- Which declarations call which, and groups of those that call each other.
use Rattle.std.specs.Prelude.{◌≡◌, ◌≤◌, ◌<◌, ℕ, List, [], ◌∷◌, ◌++◌, length, Contains, slice_get, slice_index_or, Option, None, Some}
use Rattle.std.specs.Option.{option_map_or}
use Rattle.std.specs.List.{flat_map}
use Rattle.df_types.specs.Expr.{Expr, Local, Bound, Apply, Junction, Chain, If, Let, Call, Quantify, Old}
use Rattle.df_types.specs.Stmt.{Source, Single, Results, NewArray, Update, Stmt, Declare, Assign, Choose, Branch, While, Break, Return, Check, Prove, Print, Publish, Ghost}
use Rattle.df_types.specs.Program.{Decl, NewtypeDecl, DatatypeDecl, ClassDecl, FunctionDecl, MethodDecl, Program}
use Rattle.df_types.specs.Gathering.{gather, gather_stmts, contract_expressions}

-- the function that a node calls
abbrev pub called : Expr → List ℕ
called (Local local name at) = []
called (Bound index name at) = []
called (Apply op at es) = []
called (Junction connective first rest) = []
called (Chain ty first rest) = []
called (If ty arms otherwise) = []
called (Let variable is_ghost value body) = []
called (Call callee types at es) = callee ∷ []
called (Quantify site at quantifier variable extent triggers body) = []
called (Old at e) = []

-- the methods and lemmas that a statement calls
abbrev pub called_by_source : Source → List ℕ
called_by_source (Single ty value) = []
called_by_source (Results call conversions) = call.callee ∷ []
called_by_source (NewArray site element at size elements) = []

abbrev pub called_by_update : Option Update → List ℕ
called_by_update None = []
called_by_update (Some update) = flat_map called_by_source update.sources

abbrev pub called_by : Stmt → List ℕ
called_by (Declare locals) = []
called_by (Assign update) = called_by_update (Some update)
called_by (Choose site at targets ranges condition) = []
called_by (Branch branches otherwise) = []
called_by (While site at guard invariants decreases body) = []
called_by (Break at) = []
called_by (Return at update) = called_by_update update
called_by (Check demand) = []
called_by (Prove site at aim body) = []
called_by (Print at operands) = []
called_by (Publish site at class fields this) = []
called_by (Ghost body) = []

-- the numbers of all that a declaration calls, in its contract too
abbrev pub callees : Decl → List ℕ
callees (NewtypeDecl x) = []
callees (DatatypeDecl x) = []
callees (ClassDecl x) = []
callees (FunctionDecl f) = flat_map (gather called) (contract_expressions f.head) ++ gather called f.value
callees (MethodDecl m) = flat_map (gather called) (contract_expressions m.head) ++ gather_stmts called called_by m.body

abbrev pub callees_at : Program → ℕ → List ℕ
callees_at p id = option_map_or callees (slice_get p.decls id) []

-- the one comes to the other by calls: none, or one and then others
pub data Reaches (p : Program) : ℕ → ℕ → Type 0 where
  by_none : {one : ℕ} → Reaches p one one
  by_call : {one callee other : ℕ} → Contains (callees_at p one) callee → Reaches p callee other → Reaches p one other

-- the number of the group of a declaration
abbrev pub group_at : List ℕ → ℕ → ℕ
group_at groups declaration = slice_index_or groups declaration 0

-- Two declarations are of one group where each comes to the other; a call goes to a group that is no later.
pub record AreGroups (p : Program) (groups : List ℕ) : Type 0 where
  pub each : length groups ≡ length p.decls
  pub ordered : (caller callee : ℕ) → Contains (callees_at p caller) callee → group_at groups callee ≤ group_at groups caller
  pub together : (one other : ℕ) → one < length groups → other < length groups → Reaches p one other → Reaches p other one → group_at groups one ≡ group_at groups other
  pub apart : (one other : ℕ) → one < length groups → other < length groups → group_at groups one ≡ group_at groups other → Reaches p one other
