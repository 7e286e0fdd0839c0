-- Which expressions have a type.
use Rattle.std.specs.Prelude.{ℕ, Bool, true, false, ◌&&◌, List, [], ◌∷◌, map, slice_get, Option}
use Rattle.std.specs.Option.{option_map_or}
use Rattle.df_types.specs.Ty.{Ty, Newtype, Int, Nat, Boolean, Char, AnyObject, Class, Array, Seq, Set, Data, Parameter, Tys, same_type, instance_of}
use Rattle.df_types.specs.Expr.{Expr, Local, Bound, Apply, Junction, Chain, If, Let, Call, Quantify, Old, Exprs, no_expr, expr, Links, no_link, link, Arms, no_arm, arm, Extent, Between, Among, Triggers, no_trigger, trigger}
use Rattle.df_types.specs.Program.{Program, TypeParameter, Param, Head, Function, function_at, result_type}
use Rattle.df_types.specs.Types.{are_arguments, is_type, are_types, is_ordered, converts}
use Rattle.df_types.specs.Rows.{operands, result, allowed, compares}

-- the type parameters, and the types of the locals that are there and of the values of the binders
pub record Scope : Type 0 where
  pub type_parameters : List TypeParameter
  pub locals : ℕ → Option Ty
  pub bound : List Ty

abbrev pub with_type : Scope → Ty → Scope
with_type g t = record g { bound = t ∷ g.bound }

abbrev pub is_at : Option Ty → Ty → Bool
is_at o t = option_map_or (same_type t) o false

-- what a callable takes and gives, at the types that a call gives for its type parameters
pub record Signature : Type 0 where
  pub parameters : List Ty
  pub result : Ty

abbrev pub parameters_at : Head → Tys → List Ty
parameters_at head types = map (λ (x : Param). instance_of types x.ty) head.parameters

abbrev pub results_at : Head → Tys → List Ty
results_at head types = map (λ (x : Param). instance_of types x.ty) head.results

abbrev pub signature_of : Head → Tys → Signature
signature_of head types = record { parameters = parameters_at head types; result = instance_of types (result_type head.results) }

-- types that a call gives for the type parameters
abbrev pub are_types_for : Program → Scope → Head → Tys → Bool
are_types_for p g head types = are_arguments p g.type_parameters head.type_parameters types && are_types p g.type_parameters types

-- what stands in it fits or narrows to the type
abbrev pub holds_members : Ty → Ty → Bool
holds_members (Newtype d) t = false
holds_members Int t = false
holds_members Nat t = false
holds_members Boolean t = false
holds_members Char t = false
holds_members (AnyObject nullable) t = false
holds_members (Class nullable d) t = false
holds_members (Array nullable u) t = false
holds_members (Seq u) t = converts u t
holds_members (Set u) t = converts u t
holds_members (Data d us) t = false
holds_members (Parameter n) t = false

abbrev mutual
  pub is_expr : Program → Scope → Ty → Expr → Bool
  is_expr p g t (Local local name at) = is_at (g.locals local) t
  is_expr p g t (Bound index name at) = is_at (slice_get g.bound index) t
  is_expr p g t (Apply op at es) = same_type t (result op) && (is_type p g.type_parameters t && (allowed p op && are_exprs p g (operands p op) es))
  is_expr p g t (Junction connective first rest) = same_type t Boolean && (is_expr p g Boolean first && are_truths p g rest)
  is_expr p g t (Chain own first rest) = same_type t Boolean && (is_expr p g own first && are_links p g own rest)
  is_expr p g t (If own arms otherwise) = same_type t own && (are_arms p g t arms && is_expr p g t otherwise)
  is_expr p g t (Let variable is_ghost value body) = is_expr p g variable.ty value && is_expr p (with_type g variable.ty) t body
  is_expr p g t (Call callee types at es) =
      option_map_or (λ (f : Function). same_type t (signature_of f.head types).result && (are_types_for p g f.head types && are_exprs p g (signature_of f.head types).parameters es)) (function_at p callee) false
  is_expr p g t (Quantify site at quantifier variable extent triggers body) =
      same_type t Boolean && (is_type p g.type_parameters variable.ty && (is_range p g variable.ty extent && (are_triggers p (with_type g variable.ty) triggers && is_expr p (with_type g variable.ty) Boolean body)))
  is_expr p g t (Old at e) = is_expr p g t e

  pub are_exprs : Program → Scope → List Ty → Exprs → Bool
  are_exprs p g [] no_expr = true
  are_exprs p g [] (expr e es) = false
  are_exprs p g (t ∷ ts) no_expr = false
  are_exprs p g (t ∷ ts) (expr e es) = is_expr p g t e && are_exprs p g ts es

  pub are_truths : Program → Scope → Exprs → Bool
  are_truths p g no_expr = true
  are_truths p g (expr e es) = is_expr p g Boolean e && are_truths p g es

  pub are_links : Program → Scope → Ty → Links → Bool
  are_links p g t no_link = true
  are_links p g t (link comparison at e rest) = compares comparison t && (is_expr p g t e && are_links p g t rest)

  pub are_arms : Program → Scope → Ty → Arms → Bool
  are_arms p g t no_arm = true
  are_arms p g t (arm guard value rest) = is_expr p g Boolean guard && (is_expr p g t value && are_arms p g t rest)

  -- its values fit or narrow to the type of the variable
  pub is_range : Program → Scope → Ty → Extent → Bool
  is_range p g t (Between own low low_strict high high_strict) = is_ordered own && (converts own t && (is_expr p g own low && is_expr p g own high))
  is_range p g t (Among own e) = holds_members own t && is_expr p g own e

  pub are_triggers : Program → Scope → Triggers → Bool
  are_triggers p g no_trigger = true
  are_triggers p g (trigger own e rest) = is_expr p g own e && are_triggers p g rest
