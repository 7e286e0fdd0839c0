-- Which statements are ghost code. Their marks stand just where a statement of compiled code is ghost.
use Rattle.std.specs.Prelude.{ℕ, Bool, true, false, not, ◌&&◌, ◌||◌, List, [], ◌∷◌, length, take, drop}
use Rattle.std.specs.Option.{option_map_or}
use Rattle.std.specs.List.{list_all}
use Rattle.df_types.specs.Stmt.{Target, Nowhere, LocalAt, FieldAt, ElementAt, Source, Single, Results, NewArray, Range, Stmt, Declare, Assign, Choose, Branch, While, Break, Return, Check, Prove, Print, Publish, Ghost, Stmts, done, next, Branches, no_branch, branch}
use Rattle.df_types.specs.Program.{Program, Class, Head, class_at}
use Rattle.df_types.specs.Rows.{marks_of}
use Rattle.df_types.specs.Faults.{Unreached, Watch, ghostly, with_mark, is_ghost_at, is_ghost_callee, mentions_ghost}

-- of a declaration's body or contract; a ghost function or a lemma is ghost code
abbrev pub watch_of : Program → Head → Watch
watch_of p head = record { program = p; type_parameters = head.type_parameters; locals = marks_of head.locals; bound = []; is_ghost = head.is_ghost; assigned = Unreached }

-- ---- places

abbrev pub is_ghost_field : Program → ℕ → ℕ → Bool
is_ghost_field p class field = option_map_or (λ (c : Class). is_ghost_at (marks_of c.fields) field) (class_at p class) false

-- by which locals are ghosts
abbrev pub is_ghost_target : Program → List Bool → Target → Bool
is_ghost_target p marks (Nowhere ty) = false
is_ghost_target p marks (LocalAt local name at ty) = is_ghost_at marks local
is_ghost_target p marks (FieldAt object class field at ty) = is_ghost_field p class field
is_ghost_target p marks (ElementAt array index at ty) = false

abbrev pub are_ghost_targets : Program → List Bool → List Target → Bool
are_ghost_targets p marks [] = false
are_ghost_targets p marks (target ∷ others) = list_all (is_ghost_target p marks) (target ∷ others)

-- ---- right sides

-- how many values it gives
abbrev pub arity : Source → ℕ
arity (Single ty value) = 1
arity (Results call conversions) = length conversions
arity (NewArray site element at size elements) = 1

-- a call of a lemma, or what goes to ghost places alone
abbrev pub is_ghost_source : Program → List Bool → List Target → Source → Bool
is_ghost_source p marks targets (Single ty value) = are_ghost_targets p marks targets
is_ghost_source p marks targets (Results call conversions) = is_ghost_callee p call.callee || are_ghost_targets p marks targets
is_ghost_source p marks targets (NewArray site element at size elements) = are_ghost_targets p marks targets

abbrev pub are_ghost_sources : Program → List Bool → List Target → List Source → Bool
are_ghost_sources p marks targets [] = true
are_ghost_sources p marks targets (source ∷ others) = is_ghost_source p marks (take (arity source) targets) source && are_ghost_sources p marks (drop (arity source) targets) others

-- ---- statements

abbrev pub is_ghost_branch : Watch → Branches → Bool
is_ghost_branch w no_branch = false
is_ghost_branch w (branch guard body rest) = mentions_ghost w guard

-- Ghost variables, assignments to ghost places, calls of lemmas, assertions and proofs; an `if` or a `while` whose guard mentions a
-- ghost. (A run of `else if` is ghost code from the first such guard on, which stands inside what is done otherwise.)
abbrev pub is_ghost_stmt : Watch → Stmt → Bool
is_ghost_stmt w (Declare locals) = list_all (is_ghost_at w.locals) locals
is_ghost_stmt w (Assign update) = are_ghost_sources w.program w.locals update.targets update.sources
is_ghost_stmt w (Choose site at targets ranges condition) = are_ghost_targets w.program w.locals targets
is_ghost_stmt w (Branch branches otherwise) = is_ghost_branch w branches
is_ghost_stmt w (While site at guard invariants decreases body) = mentions_ghost w guard
is_ghost_stmt w (Break at) = false
is_ghost_stmt w (Return at update) = false
is_ghost_stmt w (Check demand) = true
is_ghost_stmt w (Prove site at aim body) = true
is_ghost_stmt w (Print at operands) = false
is_ghost_stmt w (Publish site at class fields this) = false
is_ghost_stmt w (Ghost body) = true

abbrev pub are_ghost_stmts : Watch → Stmts → Bool
are_ghost_stmts w done = true
are_ghost_stmts w (next stmt others) = is_ghost_stmt w stmt && are_ghost_stmts w others

abbrev pub proof_watch : Watch → List Range → Watch
proof_watch w [] = w
proof_watch w (r ∷ rs) = proof_watch (with_mark w true) rs

-- in compiled code, a statement that is no ghost
abbrev pub is_unmarked : Watch → Stmt → Bool
is_unmarked w stmt = w.is_ghost || not (is_ghost_stmt w stmt)

abbrev mutual
  -- in ghost code nothing is marked, and all variables are ghosts
  pub is_marked : Watch → Stmt → Bool
  is_marked w (Declare locals) = is_unmarked w (Declare locals) && (not w.is_ghost || list_all (is_ghost_at w.locals) locals)
  is_marked w (Assign update) = is_unmarked w (Assign update)
  is_marked w (Choose site at targets ranges condition) = is_unmarked w (Choose site at targets ranges condition)
  is_marked w (Branch branches otherwise) = are_marked_branches w branches && are_marked w otherwise
  is_marked w (While site at guard invariants decreases body) = is_unmarked w (While site at guard invariants decreases body) && are_marked w body
  is_marked w (Break at) = true
  is_marked w (Return at update) = true
  is_marked w (Check demand) = w.is_ghost
  is_marked w (Prove site at aim body) = w.is_ghost && are_marked (proof_watch w aim.ranges) body
  is_marked w (Print at operands) = true
  is_marked w (Publish site at class fields this) = not w.is_ghost
  is_marked w (Ghost body) = not w.is_ghost && (are_ghost_stmts w body && are_marked (ghostly w true) body)

  pub are_marked : Watch → Stmts → Bool
  are_marked w done = true
  are_marked w (next stmt others) = is_marked w stmt && are_marked w others

  pub are_marked_branches : Watch → Branches → Bool
  are_marked_branches w no_branch = true
  are_marked_branches w (branch guard body rest) = (w.is_ghost || not (mentions_ghost w guard)) && (are_marked w body && are_marked_branches w rest)
