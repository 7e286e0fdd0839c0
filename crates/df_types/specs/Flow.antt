-- The discipline of ghost code and definite assignment in one flow: what statements break, in the order of the text, and which
-- locals have a value behind them.
use Rattle.std.specs.Prelude.{◌≡◌, ℕ, Bool, true, false, not, ◌&&◌, ◌||◌, ◌==◌, nat_lt, if◌then◌else◌, List, [], ◌∷◌, ◌++◌, take, drop, slice_get, Option, None, Some}
use Rattle.std.specs.List.{flat_map}
use Rattle.std.specs.Option.{option_map_or}
use Rattle.df_base.specs.declared.pos.Pos.{Pos}
use Rattle.df_types.specs.Expr.{Expr, Exprs}
use Rattle.df_types.specs.Stmt.{Target, Nowhere, LocalAt, FieldAt, ElementAt, Source, Single, Results, NewArray, Update, Range, Stmt, Declare, Assign, Choose, Branch, While, Break, Return, Check, Prove, Print, Publish, Ghost, Stmts, done, next, Branches, no_branch, branch}
use Rattle.df_types.specs.Program.{Variable, Head, Method, Decl, NewtypeDecl, DatatypeDecl, ClassDecl, FunctionDecl, MethodDecl, Program, head_at}
use Rattle.df_types.specs.Gathering.{of_demands, of_typed, of_optional}
use Rattle.df_types.specs.Faults.{Breaks, Unassigned, Fault, fault, fault_if, Assigned, Unreached, Reached, has_value, Watch, ghostly, with_assigned, is_ghost_at, param_marks, call_marks, is_ghost_callee, faults_in, faults_in_all, faults_in_extent}
use Rattle.df_types.specs.Ghosts.{watch_of, is_ghost_field, arity, is_ghost_source, proof_watch}
use Rattle.df_types.specs.Sites.{is_in}
use Rattle.df_types.specs.Typing.{numbers_of}

-- ---- what is assigned

abbrev pub join : Assigned → Assigned → Assigned
join Unreached other = other
join (Reached set) Unreached = Reached set
join (Reached set) (Reached other) = Reached (λ local. set local && other local)

-- the local has a value from here on, or has none
abbrev pub set_assigned : Bool → Assigned → ℕ → Assigned
set_assigned value Unreached local = Unreached
set_assigned value (Reached set) local = Reached (λ k. if k == local then value else set k)

abbrev pub declare : Assigned → List ℕ → Assigned
declare before [] = before
declare before (local ∷ others) = declare (set_assigned false before local) others

abbrev pub assign_at : Assigned → Target → Assigned
assign_at before (Nowhere ty) = before
assign_at before (LocalAt local name at ty) = set_assigned true before local
assign_at before (FieldAt object class field at ty) = before
assign_at before (ElementAt array index at ty) = before

abbrev pub assign : Assigned → List Target → Assigned
assign before [] = before
assign before (target ∷ others) = assign (assign_at before target) others

abbrev pub assign_all : Assigned → Option Update → Assigned
assign_all before None = before
assign_all before (Some update) = assign before update.targets

-- locals that must have a value where something stands
abbrev pub missing : Head → Assigned → Pos → List ℕ → List Fault
missing head before at [] = []
missing head before at (local ∷ others) = fault_if (not (has_value before local)) at (Unassigned (name_at head local)) ++ missing head before at others
  where
    name_at : Head → ℕ → ℕ
    name_at head local = option_map_or (λ (x : Variable). x.declared.name) (slice_get head.locals local) 0

-- ---- the order of the text

abbrev pub precedes : Pos → Pos → Bool
precedes a b = nat_lt a.line b.line || ((a.line == b.line) && nat_lt a.col b.col)

-- what is found elsewhere in the text goes where it stands
abbrev pub inserted : Fault → List Fault → List Fault
inserted x [] = x ∷ []
inserted x (y ∷ ys) = if precedes x.pos y.pos then x ∷ y ∷ ys else y ∷ inserted x ys

abbrev pub all_inserted : List Fault → List Fault → List Fault
all_inserted [] ys = ys
all_inserted (x ∷ xs) ys = inserted x (all_inserted xs ys)

-- ---- assignments

abbrev pub faults_in_each : Watch → List Expr → List Fault
faults_in_each w es = flat_map (faults_in w) es

-- a compiled place takes no ghost result, and is not assigned in ghost code
abbrev pub faults_at : Watch → Bool → Bool → Pos → List Fault
faults_at w takes_ghost is_ghost at = if is_ghost then [] else (fault_if takes_ghost at (Breaks 1) ++ fault_if w.is_ghost at (Breaks 3))

abbrev pub faults_of_target : Watch → Bool → Target → List Fault
faults_of_target w takes_ghost (Nowhere ty) = []
faults_of_target w takes_ghost (LocalAt local name at ty) = faults_at w takes_ghost (is_ghost_at w.locals local) at
faults_of_target w takes_ghost (FieldAt object class field at ty) =
    faults_in (ghostly w (is_ghost_field w.program class field)) object ++ faults_at w takes_ghost (is_ghost_field w.program class field) at
faults_of_target w takes_ghost (ElementAt array index at ty) = faults_in w array ++ (faults_in w index ++ faults_at w takes_ghost false at)

-- by which values are ghosts
abbrev pub faults_of_targets : Watch → List Bool → List Target → List Fault
faults_of_targets w marks [] = []
faults_of_targets w [] (target ∷ targets) = faults_of_target w false target ++ faults_of_targets w [] targets
faults_of_targets w (b ∷ bs) (target ∷ targets) = faults_of_target w b target ++ faults_of_targets w bs targets

-- which results of a callee are ghosts
abbrev pub result_marks : Program → ℕ → List Bool
result_marks p callee = option_map_or (λ (h : Head). param_marks h.results) (head_at p callee) []

abbrev pub value_marks : Program → Source → List Bool
value_marks p (Single ty value) = false ∷ []
value_marks p (Results call conversions) = result_marks p call.callee
value_marks p (NewArray site element at size elements) = false ∷ []

abbrev pub faults_in_elements : Watch → Option Exprs → List Fault
faults_in_elements w None = []
faults_in_elements w (Some es) = faults_in_all w [] es

-- ghost code calls no method, and makes no object
abbrev pub faults_of_source : Watch → Source → List Fault
faults_of_source w (Single ty value) = faults_in w value
faults_of_source w (Results call conversions) = faults_in_all w (call_marks w.program call.callee) call.arguments ++ fault_if (w.is_ghost && not (is_ghost_callee w.program call.callee)) call.pos (Breaks 4)
faults_of_source w (NewArray site element at size elements) = faults_in w size ++ (faults_in_elements w elements ++ fault_if w.is_ghost at (Breaks 4))

-- each right side is ghost code where it is for ghost places alone
abbrev pub faults_of_sources : Watch → List Target → List Source → List Fault
faults_of_sources w targets [] = []
faults_of_sources w targets (source ∷ others) =
    faults_of_source (ghostly w (is_ghost_source w.program w.locals (take (arity source) targets) source)) source ++ faults_of_sources w (drop (arity source) targets) others

abbrev pub faults_of_places : Watch → Update → List Fault
faults_of_places w update = faults_of_targets w (flat_map (value_marks w.program) update.sources) update.targets

abbrev pub faults_of_update : Watch → Update → List Fault
faults_of_update w update = faults_of_places w update ++ faults_of_sources w update.targets update.sources

-- a `return` is the place of its results, and ends behind its values
abbrev pub faults_of_return : Watch → Option Update → List Fault
faults_of_return w None = []
faults_of_return w (Some update) = faults_of_sources w update.targets update.sources ++ faults_of_places w update

-- a chosen variable is a ghost
abbrev pub chosen_fault : Watch → Target → List Fault
chosen_fault w (Nowhere ty) = []
chosen_fault w (LocalAt local name at ty) = fault_if (not (is_ghost_at w.locals local)) at (Breaks 6)
chosen_fault w (FieldAt object class field at ty) = fault_if (not (is_ghost_field w.program class field)) at (Breaks 6)
chosen_fault w (ElementAt array index at ty) = fault at (Breaks 6)

abbrev pub faults_of_chosen : Watch → List Target → List Fault
faults_of_chosen w [] = []
faults_of_chosen w (target ∷ targets) = faults_of_target w false target ++ (chosen_fault w target ++ faults_of_chosen w targets)

-- each over the values of those before it
abbrev pub faults_in_ranges : Watch → List Range → List Fault
faults_in_ranges w [] = []
faults_in_ranges w (r ∷ rs) = faults_in_extent w r.extent ++ faults_in_ranges (record w { bound = true ∷ w.bound }) rs

abbrev pub faults_in_given : Watch → Option Expr → List Fault
faults_in_given w None = []
faults_in_given w (Some e) = faults_in w e

-- ---- statements

-- what is known behind a statement, what each `break` in it carries behind the loop around it, and the faults in it
pub record Flowing : Type 0 where
  pub behind : Assigned
  pub breaks : Assigned
  pub faults : List Fault

abbrev pub goes_to : Assigned → List Fault → Flowing
goes_to behind faults = record { behind = behind; breaks = Unreached; faults = faults }

-- the declaration around a statement, what is ghost, and whether a `break` there leaves a ghost loop
pub record Around : Type 0 where
  pub head : Head
  pub watch : Watch
  pub in_ghost_loop : Bool

abbrev pub watching : Around → Assigned → Watch
watching g before = with_assigned g.watch before

-- contracts, assertions, measures are ghost code
abbrev pub ghost_watching : Around → Assigned → Watch
ghost_watching g before = ghostly (watching g before) true

abbrev pub in_ghost : Around → Around
in_ghost g = record { head = g.head; watch = ghostly g.watch true; in_ghost_loop = false }

abbrev pub in_loop : Around → Around
in_loop g = record g { in_ghost_loop = g.watch.is_ghost }

abbrev pub in_proof : Around → List Range → Around
in_proof g ranges = record { head = g.head; watch = proof_watch (ghostly g.watch true) ranges; in_ghost_loop = false }

abbrev mutual
  pub flow : Around → Assigned → Stmt → Flowing
  flow g before (Declare locals) = goes_to (declare before locals) []
  flow g before (Assign update) = goes_to (assign before update.targets) (faults_of_update (watching g before) update)
  flow g before (Choose site at targets ranges condition) =
      goes_to (assign before targets) (faults_of_chosen (watching g before) targets ++ (faults_in (proof_watch (ghost_watching g before) ranges) condition ++ faults_in_ranges (ghost_watching g before) ranges))
  flow g before (Branch branches otherwise) = flow_branches g before branches (flow_all g before otherwise)
  -- behind a loop its guard was false, as before it, or a `break` came there; a guard that is never false isn't looked at
  flow g before (While site at guard invariants decreases body) =
      let turn = flow_all (in_loop g) before body in
      goes_to (join before turn.breaks)
      (faults_in (watching g before) guard
      ++ (all_inserted (faults_in_each (ghost_watching g before) (of_demands invariants)) (faults_in_each (ghost_watching g before) (of_optional decreases)) ++ turn.faults))
  flow g before (Break at) = record { behind = Unreached; breaks = before; faults = fault_if (g.watch.is_ghost && not g.in_ghost_loop) at (Breaks 5) }
  flow g before (Return at update) =
      goes_to Unreached (faults_of_return (watching g before) update ++ (fault_if g.watch.is_ghost at (Breaks 5) ++ missing g.head (assign_all before update) at (numbers_of g.head.results)))
  flow g before (Check demand) = goes_to before (faults_in (ghost_watching g before) demand.condition)
  -- what is assigned in a proof is dropped
  flow g before (Prove site at aim body) =
      let proof = in_proof g aim.ranges in
      goes_to before
      (faults_in_given (watching proof before) aim.given
      ++ (faults_in_ranges (ghost_watching g before) aim.ranges
      ++ all_inserted (faults_in_each (watching proof before) (of_demands aim.claims)) (flow_all proof before body).faults))
  flow g before (Print at operands) = goes_to before (faults_in_each (watching g before) (of_typed operands) ++ fault_if g.watch.is_ghost at (Breaks 4))
  flow g before (Publish site at class fields this) = goes_to (set_assigned true before this) (missing g.head before at fields)
  flow g before (Ghost body) = flow_all (in_ghost g) before body

  pub flow_all : Around → Assigned → Stmts → Flowing
  flow_all g before done = goes_to before []
  flow_all g before (next stmt others) =
      let first = flow g before stmt in
      let rest = flow_all g first.behind others in
      record { behind = rest.behind; breaks = join first.breaks rest.breaks; faults = first.faults ++ rest.faults }

  -- on each branch, or on the way without any
  pub flow_branches : Around → Assigned → Branches → Flowing → Flowing
  flow_branches g before no_branch otherwise = otherwise
  flow_branches g before (branch guard body rest) otherwise =
      let taken = flow_all g before body in
      let others = flow_branches g before rest otherwise in
      record { behind = join taken.behind others.behind; breaks = join taken.breaks others.breaks; faults = faults_in (watching g before) guard ++ (taken.faults ++ others.faults) }

-- ---- declarations

abbrev pub around : Program → Head → Around
around p head = record { head = head; watch = watch_of p head; in_ghost_loop = false }

-- the parameters have values, and the results have none yet
abbrev pub at_entry : Head → Assigned
at_entry head = Reached (λ local. is_in local (numbers_of head.parameters))

-- a result that has no value at the end lacks it where the body opens
abbrev pub faults_in_body : Program → Method → List Fault
faults_in_body p m = let body = flow_all (around p m.head) (at_entry m.head) m.body in body.faults ++ missing m.head body.behind m.pos (numbers_of m.head.results)

abbrev pub faults_of : Program → Decl → List Fault
faults_of p (NewtypeDecl x) = []
faults_of p (DatatypeDecl x) = []
faults_of p (ClassDecl x) = []
faults_of p (FunctionDecl f) = faults_in (watch_of p f.head) f.value
faults_of p (MethodDecl m) = faults_in_body p m

-- The program obeys the ghost rules and definite assignment.
abbrev pub ObeysGhostRules : Program → Type 0
ObeysGhostRules p = (number : ℕ) (decl : Decl) → slice_get p.decls number ≡ Some decl → faults_of p decl ≡ []
