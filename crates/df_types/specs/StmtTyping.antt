-- Which statements are well typed.
use Rattle.std.specs.Prelude.{ℕ, Bool, true, false, not, ◌&&◌, ◌==◌, List, [], ◌∷◌, map, is_some, slice_get, Option, None, Some, if◌then◌else◌}
use Rattle.std.specs.Option.{option_map, option_map_or}
use Rattle.std.specs.List.{list_all, list_any, flat_map}
use Rattle.df_types.specs.Ty.{Ty, Int, Boolean, Class, Array, same_type, same_type_list}
use Rattle.df_types.specs.Op.{Op}
use Rattle.df_types.specs.Expr.{Expr, Exprs, no_expr, expr}
use Rattle.df_types.specs.Stmt.{Demand, Typed, Target, Nowhere, LocalAt, FieldAt, ElementAt, Source, Single, Results, NewArray, Update, Range, Stmt, Declare, Assign, Choose, Branch, While, Break, Return, Check, Prove, Print, Publish, Ghost, Stmts, done, next, Branches, no_branch, branch}
use Rattle.df_types.specs.Program as programs
use Rattle.df_types.specs.Program.{Program, Variable, Param, Head, Method, method_at, class_at, variable_types}
use Rattle.df_types.specs.Types.{is_type, is_framed, has_default}
use Rattle.df_types.specs.Printed.{is_printed}
use Rattle.df_types.specs.Sites.{is_in}
use Rattle.df_types.specs.Rows.{operands, result, allowed, is_conversion}
use Rattle.df_types.specs.ExprTyping.{Scope, with_type, is_at, parameters_at, results_at, are_types_for, is_expr, are_exprs, is_range}
use Rattle.df_types.specs.Measures.{is_local}

-- ---- which locals are there

abbrev pub type_of_local : Head → ℕ → Option Ty
type_of_local head n = option_map (λ (x : Variable). x.ty) (slice_get head.locals n)

-- these alone
abbrev pub scope_with : Head → List ℕ → Scope
scope_with head ns = record { type_parameters = head.type_parameters; locals = λ n. if is_in n ns then type_of_local head n else None; bound = [] }

-- all of them
abbrev pub whole_scope : Head → Scope
whole_scope head = record { type_parameters = head.type_parameters; locals = type_of_local head; bound = [] }

-- these too
abbrev pub declaring : Head → Scope → List ℕ → Scope
declaring head g [] = g
declaring head g (n ∷ ns) = declaring head (record g { locals = λ k. if k == n then type_of_local head k else g.locals k }) ns

-- where a statement stands: the declaration around it, what is there, and whether a loop is around it
pub record Setting : Type 0 where
  pub program : Program
  pub head : Head
  pub scope : Scope
  pub in_loop : Bool

abbrev pub inside_loop : Setting → Setting
inside_loop g = record g { in_loop = true }

-- the ranges, each over the values of those before it
abbrev pub bound_by : Scope → List Range → Scope
bound_by g [] = g
bound_by g (r ∷ rs) = bound_by (with_type g r.variable.ty) rs

-- no `break` leaves a proof
abbrev pub inside_proof : Setting → List Range → Setting
inside_proof g ranges = record g { in_loop = false; scope = bound_by g.scope ranges }

-- A declared local is there behind its declaration, in the list of statements in which that stands; a ghost mark is no scope.
abbrev mutual
  pub behind : Setting → Stmt → Setting
  behind g (Declare locals) = record g { scope = declaring g.head g.scope locals }
  behind g (Assign update) = g
  behind g (Choose site at targets ranges condition) = g
  behind g (Branch branches otherwise) = g
  behind g (While site at guard invariants decreases body) = g
  behind g (Break at) = g
  behind g (Return at update) = g
  behind g (Check demand) = g
  behind g (Prove site at aim body) = g
  behind g (Print at operands) = g
  behind g (Publish site at class fields this) = g
  behind g (Ghost body) = behind_all g body

  pub behind_all : Setting → Stmts → Setting
  behind_all g done = g
  behind_all g (next stmt others) = behind_all (behind g stmt) others

-- ---- expressions of statements

abbrev pub are_demands : Program → Scope → List Demand → Bool
are_demands p g ds = list_all (λ (d : Demand). is_expr p g Boolean d.condition) ds

abbrev pub are_typed : Program → Scope → List Typed → Bool
are_typed p g xs = list_all (λ (x : Typed). is_expr p g x.ty x.value) xs

-- objects, and sets of them
abbrev pub are_frame : Program → Scope → List Typed → Bool
are_frame p g xs = list_all (λ (x : Typed). is_framed x.ty) xs && are_typed p g xs

abbrev pub may_be_typed : Program → Scope → Option (List Typed) → Bool
may_be_typed p g None = true
may_be_typed p g (Some xs) = are_typed p g xs

abbrev pub are_elements : Program → Scope → Ty → Exprs → Bool
are_elements p g t no_expr = true
are_elements p g t (expr e es) = is_expr p g t e && are_elements p g t es

-- ---- assignment

-- a conversion of a value of the type
abbrev pub is_conversion_of : Program → Ty → Op → Bool
is_conversion_of p t op = is_conversion op && (same_type_list (operands p op) (t ∷ []) && allowed p op)

abbrev pub are_conversions : Program → List Ty → List Op → Bool
are_conversions p [] [] = true
are_conversions p [] (op ∷ ops) = false
are_conversions p (t ∷ ts) [] = false
are_conversions p (t ∷ ts) (op ∷ ops) = is_conversion_of p t op && are_conversions p ts ops

-- the types of its values
abbrev pub source_types : Source → List Ty
source_types (Single ty value) = ty ∷ []
source_types (Results call conversions) = map result conversions
source_types (NewArray site element at size elements) = Array false element ∷ []

-- where no elements are listed, those of a new array are the default
abbrev pub are_listed : Program → Scope → Ty → Option Exprs → Bool
are_listed p g t None = has_default p t
are_listed p g t (Some es) = are_elements p g t es

abbrev pub is_source : Program → Scope → Source → Bool
is_source p g (Single ty value) = is_expr p g ty value
is_source p g (Results call conversions) =
    option_map_or (λ (m : Method). are_types_for p g m.head call.types && (are_exprs p g (parameters_at m.head call.types) call.arguments && are_conversions p (results_at m.head call.types) conversions)) (method_at p call.callee) false
is_source p g (NewArray site element at size elements) = is_type p g.type_parameters element && (is_expr p g Int size && are_listed p g element elements)

abbrev pub is_parameter : Head → ℕ → Bool
is_parameter head n = list_any (λ (x : Param). x.local == n) head.parameters

abbrev pub is_field : Program → ℕ → ℕ → Ty → Bool
is_field p class field t = option_map_or (λ (c : programs.Class). is_at (slice_get (variable_types c.fields) field) t) (class_at p class) false

-- A place that may be assigned: no parameter, so that contracts that are read behind the body speak of the arguments; and not `this`.
abbrev pub is_target : Setting → Target → Bool
is_target g (Nowhere ty) = true
is_target g (LocalAt local name at ty) = is_at (g.scope.locals local) ty && (not (is_parameter g.head local) && not (is_local g.head.receiver local))
is_target g (FieldAt object class field at ty) = is_field g.program class field ty && is_expr g.program g.scope (Class false class) object
is_target g (ElementAt array index at ty) = is_expr g.program g.scope (Array false ty) array && is_expr g.program g.scope Int index

abbrev pub target_type : Target → Ty
target_type (Nowhere ty) = ty
target_type (LocalAt local name at ty) = ty
target_type (FieldAt object class field at ty) = ty
target_type (ElementAt array index at ty) = ty

-- places for values of these types
abbrev pub are_targets : Setting → List Ty → List Target → Bool
are_targets g [] [] = true
are_targets g [] (target ∷ targets) = false
are_targets g (t ∷ ts) [] = false
are_targets g (t ∷ ts) (target ∷ targets) = same_type t (target_type target) && (is_target g target && are_targets g ts targets)

abbrev pub is_update : Setting → Update → Bool
is_update g update = list_all (is_source g.program g.scope) update.sources && are_targets g (flat_map source_types update.sources) update.targets

-- a `return` with values gives all results theirs
abbrev pub is_result : Param → Target → Bool
is_result x (Nowhere ty) = false
is_result x (LocalAt local name at ty) = x.local == local
is_result x (FieldAt object class field at ty) = false
is_result x (ElementAt array index at ty) = false

abbrev pub are_results : List Param → List Target → Bool
are_results [] [] = true
are_results [] (target ∷ targets) = false
are_results (x ∷ xs) [] = false
are_results (x ∷ xs) (target ∷ targets) = is_result x target && are_results xs targets

abbrev pub is_return : Setting → Option Update → Bool
is_return g None = true
is_return g (Some update) = is_update g update && are_results g.head.results update.targets

-- ---- ranges

abbrev pub range_types : List Range → List Ty
range_types ranges = map (λ (r : Range). r.variable.ty) ranges

abbrev pub are_ranges : Program → Scope → List Range → Bool
are_ranges p g [] = true
are_ranges p g (r ∷ rs) = is_type p g.type_parameters r.variable.ty && (is_range p g r.variable.ty r.extent && are_ranges p (with_type g r.variable.ty) rs)

abbrev pub may_be_condition : Program → Scope → Option Expr → Bool
may_be_condition p g None = true
may_be_condition p g (Some e) = is_expr p g Boolean e

-- ---- statements

abbrev pub same_mark : Bool → Bool → Bool
same_mark true b = b
same_mark false b = not b

-- the locals are the fields of the class in order, of their types and marks
abbrev pub is_for_field : Head → Variable → ℕ → Bool
is_for_field head x n = option_map_or (λ (y : Variable). same_type y.ty x.ty && same_mark y.is_ghost x.is_ghost) (slice_get head.locals n) false

abbrev pub are_for_fields : Head → List Variable → List ℕ → Bool
are_for_fields head [] [] = true
are_for_fields head [] (n ∷ ns) = false
are_for_fields head (x ∷ xs) [] = false
are_for_fields head (x ∷ xs) (n ∷ ns) = is_for_field head x n && are_for_fields head xs ns

-- a first phase ends in a constructor, whose `this` is no parameter
abbrev pub is_publishing : Setting → ℕ → List ℕ → ℕ → Bool
is_publishing g class fields this =
    option_map_or (λ (c : programs.Class). are_for_fields g.head c.fields fields) (class_at g.program class) false
    && (list_all (λ n. is_some (g.scope.locals n)) fields
    && (is_local g.head.receiver this && (not (is_parameter g.head this) && is_at (g.scope.locals this) (Class false class))))

abbrev mutual
  pub is_stmt : Setting → Stmt → Bool
  is_stmt g (Declare locals) = list_all (λ n. is_some (type_of_local g.head n)) locals
  is_stmt g (Assign update) = is_update g update
  is_stmt g (Choose site at targets ranges condition) =
      are_ranges g.program g.scope ranges && (is_expr g.program (bound_by g.scope ranges) Boolean condition && are_targets g (range_types ranges) targets)
  is_stmt g (Branch branches otherwise) = are_branches g branches && are_stmts g otherwise
  is_stmt g (While site at guard invariants decreases body) =
      is_expr g.program g.scope Boolean guard && (are_demands g.program g.scope invariants && (may_be_typed g.program g.scope decreases && are_stmts (inside_loop g) body))
  is_stmt g (Break at) = g.in_loop
  is_stmt g (Return at update) = is_return g update
  is_stmt g (Check demand) = is_expr g.program g.scope Boolean demand.condition
  is_stmt g (Prove site at aim body) =
      are_ranges g.program g.scope aim.ranges
      && (may_be_condition g.program (bound_by g.scope aim.ranges) aim.given
      && (are_demands g.program (bound_by g.scope aim.ranges) aim.claims && are_stmts (inside_proof g aim.ranges) body))
  is_stmt g (Print at operands) = list_all (λ (x : Typed). is_printed g.program x.ty) operands && are_typed g.program g.scope operands
  is_stmt g (Publish site at class fields this) = is_publishing g class fields this
  is_stmt g (Ghost body) = are_stmts g body

  pub are_stmts : Setting → Stmts → Bool
  are_stmts g done = true
  are_stmts g (next stmt others) = is_stmt g stmt && are_stmts (behind g stmt) others

  pub are_branches : Setting → Branches → Bool
  are_branches g no_branch = true
  are_branches g (branch guard body rest) = is_expr g.program g.scope Boolean guard && (are_stmts g body && are_branches g rest)
