-- Measures of loops and declarations: their own, or those by default.
use Rattle.std.specs.Prelude.{ℕ, negsuc, ◌==◌, Bool, true, false, not, List, [], ◌∷◌, ◌++◌, map, filter, slice_get, ◌&&◌, Option, None, Some}
use Rattle.std.specs.Option.{option_map_or, option_and_then, unwrap_or}
use Rattle.df_base.specs.declared.pos.Pos.{Pos}
use Rattle.df_types.specs.declared.op.Comparison.{Comparison}
use Rattle.df_types.specs.declared.op.Comparison.TheVariants.{Equal, NotEqual, Less, AtMost, Greater, AtLeast}
use Rattle.df_types.specs.declared.expr.Connective.TheVariants.{And, Or, Implies, Explies}
use Rattle.df_types.specs.Ty.{Ty, Newtype, Int, Nat, Boolean, Char, AnyObject, Class, Array, Seq, Set, Data, Parameter, tys_of}
use Rattle.df_types.specs.Op.{Op}
use Rattle.df_types.specs.Expr.{Expr, Local, Bound, Apply, Junction, Chain, If, Let, Call, Quantify, Old, Exprs, no_expr, expr, exprs_of, no_arm, arm}
use Rattle.df_types.specs.Stmt.{Typed}
use Rattle.df_types.specs.Program.{Variable, Param, Head}
use Rattle.df_types.specs.Types.{is_number}
use Rattle.df_types.specs.Rows.{compared_by}

-- ---- loops

-- how far one value of an integer type is below another, as an `int`
abbrev pub distance : Ty → Pos → Expr → Expr → Expr
distance t at low high = Apply (Op.Subtract Int) at (expr (Apply (Op.As t Int) at (expr high no_expr)) (expr (Apply (Op.As t Int) at (expr low no_expr)) no_expr))

-- of a comparison of two integers: what falls
abbrev pub fall : Ty → Pos → Comparison → Expr → Expr → Option Expr
fall t at Less a b = Some (distance t at a b)
fall t at AtMost a b = Some (distance t at a b)
fall t at Greater a b = Some (distance t at b a)
fall t at AtLeast a b = Some (distance t at b a)
fall t at NotEqual a b = Some (If Int (arm (Apply (Op.Compare Less t) at (expr a (expr b no_expr))) (distance t at a b) no_arm) (distance t at b a))
fall t at Equal a b = None

abbrev pub fall_of_integers : Bool → Ty → Pos → Comparison → Expr → Expr → Option Expr
fall_of_integers true t at comparison a b = fall t at comparison a b
fall_of_integers false t at comparison a b = None

abbrev pub fall_between : Pos → Exprs → Comparison × Ty → Option Expr
fall_between at (expr a (expr b no_expr)) x = fall_of_integers (is_number x.1) x.1 at x.0 a b
fall_between at es x = None

-- what falls by a conjunct, where it is such a comparison
abbrev pub conjunct_measure : Expr → Option Expr
conjunct_measure (Local local name at) = None
conjunct_measure (Bound index name at) = None
conjunct_measure (Apply op at es) = option_and_then (fall_between at es) (compared_by op)
conjunct_measure (Junction connective first rest) = None
conjunct_measure (Chain ty first rest) = None
conjunct_measure (If ty arms otherwise) = None
conjunct_measure (Let variable is_ghost value body) = None
conjunct_measure (Call callee types at es) = None
conjunct_measure (Quantify site at quantifier variable extent triggers body) = None
conjunct_measure (Old at e) = None

abbrev mutual
  -- what `&&` joins
  pub conjuncts : Expr → List Expr
  conjuncts (Local local name at) = Local local name at ∷ []
  conjuncts (Bound index name at) = Bound index name at ∷ []
  conjuncts (Apply op at es) = Apply op at es ∷ []
  conjuncts (Junction And first rest) = conjuncts first ++ conjuncts_of_all rest
  conjuncts (Junction Or first rest) = Junction Or first rest ∷ []
  conjuncts (Junction Implies first rest) = Junction Implies first rest ∷ []
  conjuncts (Junction Explies first rest) = Junction Explies first rest ∷ []
  conjuncts (Chain ty first rest) = Chain ty first rest ∷ []
  conjuncts (If ty arms otherwise) = If ty arms otherwise ∷ []
  conjuncts (Let variable is_ghost value body) = Let variable is_ghost value body ∷ []
  conjuncts (Call callee types at es) = Call callee types at es ∷ []
  conjuncts (Quantify site at quantifier variable extent triggers body) = Quantify site at quantifier variable extent triggers body ∷ []
  conjuncts (Old at e) = Old at e ∷ []

  pub conjuncts_of_all : Exprs → List Expr
  conjuncts_of_all no_expr = []
  conjuncts_of_all (expr e es) = conjuncts e ++ conjuncts_of_all es

-- -1 where one of these is false
abbrev pub where_true : Pos → List Expr → Expr → Expr
where_true at [] measure = measure
where_true at (e ∷ es) measure = If Int (arm (Junction And e (exprs_of es)) measure no_arm) (Apply (Op.NumberOf Int (negsuc 0)) at no_expr)

-- the first conjunct of such a form, behind those before it
abbrev pub first_measure : Pos → List Expr → List Expr → Option Expr
first_measure at before [] = None
first_measure at before (e ∷ es) = option_map_or (λ measure. Some (where_true at before measure)) (conjunct_measure e) (first_measure at (before ++ e ∷ []) es)

-- Of a guard `A < B` or `A <= B` it is `B - A`, of `A > B` or `A >= B` it is `A - B`, of `A != B` whichever is the distance. Of
-- conjuncts the first one of these forms counts, with -1 where one before it is false.
abbrev pub guard_measure : Pos → Expr → Option Expr
guard_measure at guard = first_measure at [] (conjuncts guard)

abbrev pub as_measure : Option Expr → List Typed
as_measure None = []
as_measure (Some value) = record { ty = Int; value = value } ∷ []

-- the measure of a loop at a position: its clause, or that of its guard
abbrev pub loop_measure : Pos → Expr → Option (List Typed) → List Typed
loop_measure at guard decreases = unwrap_or decreases (as_measure (guard_measure at guard))

-- ---- declarations

-- values of such a type are only equal or not
abbrev pub is_parameter_type : Ty → Bool
is_parameter_type (Newtype d) = false
is_parameter_type Int = false
is_parameter_type Nat = false
is_parameter_type Boolean = false
is_parameter_type Char = false
is_parameter_type (AnyObject nullable) = false
is_parameter_type (Class nullable d) = false
is_parameter_type (Array nullable t) = false
is_parameter_type (Seq t) = false
is_parameter_type (Set t) = false
is_parameter_type (Data d ts) = false
is_parameter_type (Parameter n) = true

abbrev pub is_local : Option ℕ → ℕ → Bool
is_local None n = false
is_local (Some k) n = k == n

-- the name and the place of a local
abbrev pub local_named : ℕ → Option Variable → Pos → Expr
local_named n None at = Local n 0 at
local_named n (Some x) at = Local n x.declared.name x.declared.pos

abbrev pub variable_at : Head → ℕ → Option Variable
variable_at head n = slice_get head.locals n

abbrev pub parameter_measure : Head → Param → Typed
parameter_measure head x = record { ty = x.ty; value = local_named x.local (variable_at head x.local) head.declared.pos }

-- the parameters in order, without `this` and those whose type is a type parameter
abbrev pub parameters_measure : Head → List Typed
parameters_measure head = map (parameter_measure head) (filter (λ (x : Param). not (is_parameter_type x.ty) && not (is_local head.receiver x.local)) head.parameters)

-- the objects that a frame gives, as a set
abbrev pub frame_objects : Head → Expr
frame_objects head = Apply (Op.ObjectsOf (tys_of (map (λ (x : Typed). x.ty) head.frame))) head.declared.pos (exprs_of (map (λ (x : Typed). x.value) head.frame))

abbrev pub frame_measure : Head → List Typed → List Typed
frame_measure head [] = []
frame_measure head (x ∷ xs) = record { ty = Set (AnyObject false); value = frame_objects head } ∷ []

-- of a function: with a `reads` its objects stand first
abbrev pub function_measure : Head → List Typed
function_measure head = unwrap_or head.decreases (frame_measure head head.frame ++ parameters_measure head)

-- of a method, a lemma or a constructor
abbrev pub method_measure : Head → List Typed
method_measure head = unwrap_or head.decreases (parameters_measure head)
