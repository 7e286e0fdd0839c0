-- What compiles, as three rules of native code: on the types of places, on whole numbers without bounds, and on what
-- an expression may hold. Contracts, invariants, measures and assertions are not compiled.
use Rattle.std.specs.Prelude.{◌≡◌, ℕ, Bool, true, false, not, ◌&&◌, if◌then◌else◌, List, [], ◌∷◌, ◌++◌, Option, None, Some}
use Rattle.std.specs.List.{flat_map}
use Rattle.df_base.specs.declared.pos.Pos.{Pos}
use Rattle.df_lang.specs.declared.ty.Ty.{Ty}
use Rattle.df_lang.specs.declared.ty.Ty.TheVariants as types
use Rattle.df_lang.specs.declared.expr.Arrow.TheVariants as arrows
use Rattle.df_lang.specs.Expr.{Expr, Number, Truth, Character, Local, Negate, Not, Sum, Product, Junction, Implies, Iff, Chain, As, Convert, Addends, no_addend, addend, Factors, no_factor, factor, Members, no_member, member, Links, no_link, link}
use Rattle.df_lang.specs.Stmt.{Operand, Text, Value, Call, Source, Single, Results, Update, Variable, Stmt, Block, Var, Assign, CallOf, If, While, Break, Return, Assert, Print, Stmts, done, next, Branches, no_branch, branch}
use Rattle.df_lang.specs.Program.{Param, Method, Program, method_at}
use Rattle.df_lang.specs.Newtype.{is_unbounded}

pub data NativeRule : Type 0 where
  -- a compiled parameter, result or variable is of a newtype, a truth or a character
  Places : NativeRule
  -- a compiled expression of type `int` is a literal or an `as int`, and stands directly as an operand of a chain of comparisons or of `as`
  Integers : NativeRule
  -- no `as nat` in a compiled expression
  Forms : NativeRule

-- a rule that is broken, and where
pub record Breach : Type 0 where
  pub rule : NativeRule
  pub pos : Pos

abbrev pub breach : NativeRule → Pos → List Breach
breach rule pos = record { rule = rule; pos = pos } ∷ []

-- ---- Expressions. A local of type `int` breaks the rule on places where it is declared, and none where it is read.

-- broken there by what is of type `int`
abbrev pub if_int : Ty → Pos → List Breach
if_int types.Int pos = breach Integers pos
if_int ty pos = []

-- unless it stands as an operand of a comparison or of `as`
abbrev pub if_int_elsewhere : Bool → Ty → Pos → List Breach
if_int_elsewhere is_operand ty pos = if is_operand then [] else if_int ty pos

-- broken there by a cast to `nat`
abbrev pub if_nat : Ty → Pos → List Breach
if_nat types.Nat pos = breach Forms pos
if_nat ty pos = []

abbrev mutual
  -- In the order of the text, of an expression that stands as such an operand, or elsewhere; a conversion is no node of the text.
  pub breaches : Bool → Expr → List Breach
  breaches is_operand (Number ty value pos) = if_int_elsewhere is_operand ty pos
  breaches is_operand (Truth value pos) = []
  breaches is_operand (Character code pos) = []
  breaches is_operand (Local local name pos) = []
  breaches is_operand (Negate ty pos operand) = breaches false operand ++ if_int ty pos
  breaches is_operand (Not pos operand) = breaches false operand
  breaches is_operand (Sum ty first rest) = breaches false first ++ breaches_of_addends ty rest
  breaches is_operand (Product ty first rest) = breaches false first ++ breaches_of_factors ty rest
  breaches is_operand (Junction junction first rest) = breaches false first ++ breaches_of_members rest
  breaches is_operand (Implies arrows.Implies first rest) = breaches false first ++ breaches_of_members rest
  breaches is_operand (Implies arrows.Explies first rest) = breaches_of_turned rest ++ breaches false first
  breaches is_operand (Iff first rest) = breaches false first ++ breaches_of_members rest
  breaches is_operand (Chain ty first rest) = breaches true first ++ breaches_of_links rest
  breaches is_operand (As source target pos operand) = breaches true operand ++ if_int_elsewhere is_operand target pos ++ if_nat target pos
  breaches is_operand (Convert source target pos operand) = breaches is_operand operand

  -- signs of the type, each with the operand after it
  pub breaches_of_addends : Ty → Addends → List Breach
  breaches_of_addends ty no_addend = []
  breaches_of_addends ty (addend operator pos operand rest) = breaches false operand ++ if_int ty pos ++ breaches_of_addends ty rest

  pub breaches_of_factors : Ty → Factors → List Breach
  breaches_of_factors ty no_factor = []
  breaches_of_factors ty (factor operator pos operand rest) = breaches false operand ++ if_int ty pos ++ breaches_of_factors ty rest

  pub breaches_of_members : Members → List Breach
  breaches_of_members no_member = []
  breaches_of_members (member pos operand rest) = breaches false operand ++ breaches_of_members rest

  -- of members that stand in the text from the last to the first
  pub breaches_of_turned : Members → List Breach
  breaches_of_turned no_member = []
  breaches_of_turned (member pos operand rest) = breaches_of_turned rest ++ breaches false operand

  pub breaches_of_links : Links → List Breach
  breaches_of_links no_link = []
  breaches_of_links (link comparison pos operand rest) = breaches true operand ++ breaches_of_links rest

-- ---- Statements.

abbrev pub breaches_of_printed : Operand → List Breach
breaches_of_printed (Text characters) = []
breaches_of_printed (Value ty value) = breaches false value

abbrev pub breaches_of_call : Call → List Breach
breaches_of_call call = flat_map (breaches false) call.arguments

abbrev pub breaches_of_source : Source → List Breach
breaches_of_source (Single ty value) = breaches false value
breaches_of_source (Results call results) = breaches_of_call call

abbrev pub breaches_of_update : Option Update → List Breach
breaches_of_update None = []
breaches_of_update (Some update) = flat_map breaches_of_source update.sources

-- a ghost place is not compiled
abbrev pub breaches_of_place : Bool → Ty → Pos → List Breach
breaches_of_place is_ghost ty pos = if (not is_ghost && is_unbounded ty) then breach Places pos else []

abbrev pub breaches_of_variables : List Variable → List Breach
breaches_of_variables variables = flat_map (λ (variable : Variable). breaches_of_place variable.is_ghost variable.ty variable.pos) variables

abbrev pub breaches_of_params : List Param → List Breach
breaches_of_params params = flat_map (λ (param : Param). breaches_of_place param.is_ghost param.ty param.declared.pos) params

abbrev mutual
  -- nothing but places is a ghost yet, so the statements of all bodies are compiled
  pub breaches_in : Stmt → List Breach
  breaches_in (Block pos body) = breaches_in_all body
  breaches_in (Var pos variables update) = breaches_of_variables variables ++ breaches_of_update update
  breaches_in (Assign pos update) = breaches_of_update (Some update)
  breaches_in (CallOf call) = breaches_of_call call
  breaches_in (If branches otherwise) = breaches_in_branches branches ++ breaches_in_all otherwise
  breaches_in (While pos guard invariants decreases body) = breaches false guard ++ breaches_in_all body
  breaches_in (Break pos) = []
  breaches_in (Return pos update) = breaches_of_update update
  breaches_in (Assert pos condition) = []
  breaches_in (Print pos operands) = flat_map breaches_of_printed operands

  pub breaches_in_all : Stmts → List Breach
  breaches_in_all done = []
  breaches_in_all (next stmt others) = breaches_in stmt ++ breaches_in_all others

  pub breaches_in_branches : Branches → List Breach
  breaches_in_branches no_branch = []
  breaches_in_branches (branch pos guard body rest) = breaches false guard ++ breaches_in_all body ++ breaches_in_branches rest

-- the rules bind all methods
abbrev pub breaches_in_method : Method → List Breach
breaches_in_method m = breaches_of_params m.parameters ++ breaches_of_params m.results ++ breaches_in_all m.body

abbrev pub IsNative : Program → Type 0
IsNative program = (number : ℕ) (method : Method) → method_at program number ≡ Some method → breaches_in_method method ≡ []
