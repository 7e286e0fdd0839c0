-- What compiles, as three rules of native code: on the types of places, on whole numbers without bounds, and on what an expression
-- may hold. They bind fields, parts, methods, constructors, and the functions that compiled code of these calls.
use Rattle.std.specs.Prelude.{◌≡◌, ℕ, Bool, true, false, not, ◌&&◌, if◌then◌else◌, List, [], ◌∷◌, ◌++◌, take, drop, slice_get, Contains, Option, None, Some}
use Rattle.std.specs.List.{flat_map}
use Rattle.std.specs.Option.{option_map_or}
use Rattle.df_base.specs.declared.pos.Pos.{Pos}
use Rattle.df_types.specs.declared.expr.Connective.{Connective}
use Rattle.df_types.specs.Ty.{Ty, Newtype, Int, Nat, Boolean, Char, AnyObject, Class, Array, Seq, Set, Data, Parameter, Tys, no_ty, and_ty}
use Rattle.df_types.specs.Op.{Op}
use Rattle.df_types.specs.Expr.{Expr, Local, Bound, Apply, Junction, Chain, If, Let, Call, Quantify, Old, Exprs, no_expr, expr, Links, no_link, link, Arms, no_arm, arm, Extent, Between, Among}
use Rattle.df_types.specs.Stmt.{Typed, Target, Nowhere, LocalAt, FieldAt, ElementAt, Source, Single, Results, NewArray, Update, Stmt, Declare, Assign, Choose, Branch, While, Break, Return, Check, Prove, Print, Publish, Ghost, Stmts, done, next, Branches, no_branch, branch}
use Rattle.df_types.specs.Program.{Variable, Constructor, Param, Head, Function, Method, Decl, NewtypeDecl, DatatypeDecl, ClassDecl, FunctionDecl, MethodDecl, Program, function_at}
use Rattle.df_types.specs.Rows.{result, ghost_operands, is_compiled, may_be_int, int_operands, is_conversion, marks_of}
use Rattle.df_types.specs.ExprTyping.{Scope, with_type, signature_of}
use Rattle.df_types.specs.Faults.{in_order, head_mark, tail_marks, call_marks}
use Rattle.df_types.specs.Ghosts.{is_ghost_target, arity, is_ghost_source}
use Rattle.df_types.specs.StmtTyping.{whole_scope}

pub data NativeRule : Type 0 where
  -- a compiled place has a type without `int`, `nat` and sets, also inside
  Places : NativeRule
  -- a compiled expression of type `int` is a literal, a size or an `as int`, and stands directly in a comparison, an `as`, an index, a slice or a size
  Integers : NativeRule
  -- no quantifier, test of membership, set or `as nat` in a compiled expression
  Forms : NativeRule

-- what compiled code has: a rule that is broken there, a function that it calls, the type of a place
pub data Found : Type 0 where
  Broken : (rule : NativeRule) (pos : Pos) → Found
  Called : (function : ℕ) → Found
  OfType : (ty : Ty) → Found

-- ---- types

abbrev mutual
  pub is_native : Ty → Bool
  is_native (Newtype d) = true
  is_native Int = false
  is_native Nat = false
  is_native Boolean = true
  is_native Char = true
  is_native (AnyObject nullable) = true
  is_native (Class nullable d) = true
  is_native (Array nullable t) = is_native t
  is_native (Seq t) = is_native t
  is_native (Set t) = false
  is_native (Data d ts) = are_native ts
  is_native (Parameter n) = true

  pub are_native : Tys → Bool
  are_native no_ty = true
  are_native (and_ty t ts) = is_native t && are_native ts

abbrev pub is_int : Ty → Bool
is_int (Newtype d) = false
is_int Int = true
is_int Nat = false
is_int Boolean = false
is_int Char = false
is_int (AnyObject nullable) = false
is_int (Class nullable d) = false
is_int (Array nullable t) = false
is_int (Seq t) = false
is_int (Set t) = false
is_int (Data d ts) = false
is_int (Parameter n) = false

abbrev pub found_at_place : Bool → Ty → Pos → List Found
found_at_place is_place t at = if is_place then (if is_native t then OfType t ∷ [] else OfType t ∷ Broken Places at ∷ []) else []

-- ---- expressions: what is found in the order of the text, of one that stands in a place for an `int` or elsewhere

abbrev pub broken_if : Bool → NativeRule → Pos → List Found
broken_if is_broken rule at = if is_broken then Broken rule at ∷ [] else []

abbrev pub int_at : Option Ty → Pos → List Found
int_at o at = broken_if (option_map_or is_int o false) Integers at

abbrev pub found_at_op : Bool → Op → Pos → List Found
found_at_op takes op at = if is_conversion op then [] else broken_if (is_int (result op) && not (may_be_int op && takes)) Integers at ++ broken_if (not (is_compiled op)) Forms at

abbrev pub operand_marks : Bool → Op → List Bool
operand_marks takes op = if is_conversion op then takes ∷ [] else int_operands op

abbrev pub gives_int : Program → ℕ → Tys → Bool
gives_int p callee types = option_map_or (λ (f : Function). is_int (signature_of f.head types).result) (function_at p callee) false

abbrev mutual
  pub found : Program → Scope → Bool → Expr → List Found
  found p g takes (Local local name at) = int_at (g.locals local) at
  found p g takes (Bound index name at) = int_at (slice_get g.bound index) at
  found p g takes (Apply op at es) = found_all p g (operand_marks takes op) (ghost_operands p op) es ++ found_at_op takes op at
  found p g takes (Junction connective first rest) = in_order connective (found p g false first) (found_members p g connective rest)
  found p g takes (Chain own first rest) = found p g true first ++ found_links p g rest
  found p g takes (If own arms otherwise) = found_arms p g arms ++ found p g false otherwise
  found p g takes (Let variable is_ghost value body) =
      found_at_place (variable.is_written && not is_ghost) variable.ty variable.pos ++ ((if is_ghost then [] else found p g false value) ++ found p (with_type g variable.ty) false body)
  found p g takes (Call callee types at es) = found_all p g [] (call_marks p callee) es ++ Called callee ∷ broken_if (gives_int p callee types) Integers at
  found p g takes (Quantify site at quantifier variable extent triggers body) = found p (with_type g variable.ty) false body ++ (found_extent p g extent ++ Broken Forms at ∷ [])
  found p g takes (Old at e) = found p g takes e

  -- those that are no ghosts
  pub found_all : Program → Scope → List Bool → List Bool → Exprs → List Found
  found_all p g takes marks no_expr = []
  found_all p g takes marks (expr e es) = (if head_mark marks then [] else found p g (head_mark takes) e) ++ found_all p g (tail_marks takes) (tail_marks marks) es

  pub found_members : Program → Scope → Connective → Exprs → List Found
  found_members p g connective no_expr = []
  found_members p g connective (expr e es) = in_order connective (found p g false e) (found_members p g connective es)

  pub found_links : Program → Scope → Links → List Found
  found_links p g no_link = []
  found_links p g (link comparison at e rest) = found p g true e ++ found_links p g rest

  pub found_arms : Program → Scope → Arms → List Found
  found_arms p g no_arm = []
  found_arms p g (arm guard value rest) = found p g false guard ++ (found p g false value ++ found_arms p g rest)

  pub found_extent : Program → Scope → Extent → List Found
  found_extent p g (Between own low low_strict high high_strict) = found p g false low ++ found p g false high
  found_extent p g (Among own container) = found p g false container

-- ---- statements

-- the declaration around them
pub record Code : Type 0 where
  pub program : Program
  pub head : Head
  pub scope : Scope

abbrev pub marks_in : Code → List Bool
marks_in c = marks_of c.head.locals

abbrev pub found_in_target : Code → Target → List Found
found_in_target c (Nowhere ty) = []
found_in_target c (LocalAt local name at ty) = []
found_in_target c (FieldAt object class field at ty) = found c.program c.scope false object
found_in_target c (ElementAt array index at ty) = found c.program c.scope false array ++ found c.program c.scope true index

abbrev pub found_in_targets : Code → List Target → List Found
found_in_targets c targets = flat_map (λ target. if is_ghost_target c.program (marks_in c) target then [] else found_in_target c target) targets

abbrev pub found_in_elements : Code → Option Exprs → List Found
found_in_elements c None = []
found_in_elements c (Some es) = found_all c.program c.scope [] [] es

abbrev pub found_in_source : Code → Source → List Found
found_in_source c (Single ty value) = found c.program c.scope false value
found_in_source c (Results call conversions) = found_all c.program c.scope [] (call_marks c.program call.callee) call.arguments
found_in_source c (NewArray site element at size elements) = found c.program c.scope true size ++ (found_in_elements c elements ++ found_at_place true element at)

-- a right side that is ghost code is not compiled
abbrev pub found_in_sources : Code → List Target → List Source → List Found
found_in_sources c targets [] = []
found_in_sources c targets (source ∷ others) =
    (if is_ghost_source c.program (marks_in c) (take (arity source) targets) source then [] else found_in_source c source) ++ found_in_sources c (drop (arity source) targets) others

abbrev pub found_in_update : Code → Option Update → List Found
found_in_update c None = []
found_in_update c (Some update) = found_in_targets c update.targets ++ found_in_sources c update.targets update.sources

abbrev pub found_at_variable : Variable → List Found
found_at_variable x = found_at_place (x.is_written && not x.is_ghost) x.ty x.declared.pos

abbrev pub found_at_local : Head → ℕ → List Found
found_at_local head local = option_map_or found_at_variable (slice_get head.locals local) []

abbrev mutual
  pub found_by : Code → Stmt → List Found
  found_by c (Declare locals) = flat_map (found_at_local c.head) locals
  found_by c (Assign update) = found_in_update c (Some update)
  found_by c (Choose site at targets ranges condition) = []
  found_by c (Branch branches otherwise) = found_in_branches c branches ++ found_by_all c otherwise
  found_by c (While site at guard invariants decreases body) = found c.program c.scope false guard ++ found_by_all c body
  found_by c (Break at) = []
  found_by c (Return at update) = found_in_update c update
  found_by c (Check demand) = []
  found_by c (Prove site at aim body) = []
  found_by c (Print at operands) = flat_map (λ (x : Typed). found c.program c.scope false x.value) operands
  found_by c (Publish site at class fields this) = []
  found_by c (Ghost body) = []

  pub found_by_all : Code → Stmts → List Found
  found_by_all c done = []
  found_by_all c (next stmt others) = found_by c stmt ++ found_by_all c others

  pub found_in_branches : Code → Branches → List Found
  found_in_branches c no_branch = []
  found_in_branches c (branch guard body rest) = found c.program c.scope false guard ++ (found_by_all c body ++ found_in_branches c rest)

-- ---- declarations

-- all locals are there
abbrev pub code_of : Program → Head → Code
code_of p head = record { program = p; head = head; scope = whole_scope head }

abbrev pub found_at_params : Head → List Param → List Found
found_at_params head params = flat_map (λ (x : Param). found_at_local head x.local) params

abbrev pub found_at_variables : List Variable → List Found
found_at_variables variables = flat_map found_at_variable variables

abbrev pub found_at_constructor : Constructor → List Found
found_at_constructor c = found_at_variables c.parts

abbrev pub found_in_function : Program → Function → List Found
found_in_function p f = found_at_params f.head f.head.parameters ++ (found_at_params f.head f.head.results ++ found p (whole_scope f.head) false f.value)

abbrev pub found_in_method : Program → Method → List Found
found_in_method p m = found_at_params m.head m.head.parameters ++ (found_at_params m.head m.head.results ++ found_by_all (code_of p m.head) m.body)

abbrev pub found_in_decl : Program → Decl → List Found
found_in_decl p (NewtypeDecl x) = []
found_in_decl p (DatatypeDecl x) = flat_map found_at_constructor x.constructors
found_in_decl p (ClassDecl x) = found_at_variables x.fields
found_in_decl p (FunctionDecl f) = found_in_function p f
found_in_decl p (MethodDecl m) = found_in_method p m

abbrev pub found_at : Program → ℕ → List Found
found_at p id = option_map_or (found_in_decl p) (slice_get p.decls id) []

-- ---- what the rules bind

-- the datatype stands in the type
abbrev mutual
  pub datatypes_in : Ty → List ℕ
  datatypes_in (Newtype d) = []
  datatypes_in Int = []
  datatypes_in Nat = []
  datatypes_in Boolean = []
  datatypes_in Char = []
  datatypes_in (AnyObject nullable) = []
  datatypes_in (Class nullable d) = []
  datatypes_in (Array nullable t) = datatypes_in t
  datatypes_in (Seq t) = datatypes_in t
  datatypes_in (Set t) = datatypes_in t
  datatypes_in (Data d ts) = d ∷ datatypes_in_all ts
  datatypes_in (Parameter n) = []

  pub datatypes_in_all : Tys → List ℕ
  datatypes_in_all no_ty = []
  datatypes_in_all (and_ty t ts) = datatypes_in t ++ datatypes_in_all ts

-- a compiled method, a constructor or a class
abbrev pub is_root : Decl → Bool
is_root (NewtypeDecl x) = false
is_root (DatatypeDecl x) = false
is_root (ClassDecl x) = true
is_root (FunctionDecl f) = false
is_root (MethodDecl m) = not m.head.is_ghost

-- a compiled declaration: a root, a function that compiled code calls, a datatype of a compiled place
pub data IsCompiled (p : Program) : ℕ → Type 0 where
  as_root : {id : ℕ} (decl : Decl) → slice_get p.decls id ≡ Some decl → is_root decl ≡ true → IsCompiled p id
  as_callee : {caller id : ℕ} → IsCompiled p caller → Contains (found_at p caller) (Called id) → IsCompiled p id
  as_place : {user id : ℕ} (t : Ty) → IsCompiled p user → Contains (found_at p user) (OfType t) → Contains (datatypes_in t) id → IsCompiled p id

abbrev pub is_broken : Found → List (NativeRule × Pos)
is_broken (Broken rule at) = (rule, at) ∷ []
is_broken (Called function) = []
is_broken (OfType t) = []

-- What is broken in it, in the order of the text. Of several declarations the one tells whose first breach stands first in the text: a
-- class may have fields behind its methods.
abbrev pub breaches_at : Program → ℕ → List (NativeRule × Pos)
breaches_at p id = flat_map is_broken (found_at p id)

abbrev pub IsCompilable : Program → Type 0
IsCompilable p = (id : ℕ) → IsCompiled p id → breaches_at p id ≡ []
