-- Elaboration of expressions: rules on source and typed expression side by side.
use Rattle.std.specs.Prelude.{◌≡◌, Bool, true, false, not, ◌||◌, List, [], ◌∷◌, Option, Some, None}
use Rattle.df_base.specs.declared.pos.Pos.{Pos}
use Rattle.df_lang.specs.declared.ty.Ty.{Ty}
use Rattle.df_lang.specs.declared.ty.Ty.TheVariants as types
use Rattle.df_lang.specs.declared.expr.AddendOperator.{AddendOperator}
use Rattle.df_lang.specs.declared.expr.AddendOperator.TheVariants as addends
use Rattle.df_lang.specs.declared.expr.FactorOperator.{FactorOperator}
use Rattle.df_lang.specs.declared.expr.FactorOperator.TheVariants as factors
use Rattle.df_lang.specs.declared.expr.Junction.TheVariants as junctions
use Rattle.df_lang.specs.declared.expr.Arrow.TheVariants as arrows
use Rattle.df_lang.specs.declared.expr.Comparison.{Comparison}
use Rattle.df_lang.specs.declared.expr.Comparison.TheVariants as comparisons
use Rattle.df_lang.specs.Newtype.{same_type}
use Rattle.df_lang.specs.Expr as typed
use Rattle.df_ntree.specs.declared.expr.BinaryOperator.{BinaryOperator}
use Rattle.df_ntree.specs.declared.expr.BinaryOperator.TheVariants as binary
use Rattle.df_ntree.specs.declared.expr.UnaryOperator.TheVariants as unary
use Rattle.df_ntree.specs.declared.expr.Group.{Group}
use Rattle.df_ntree.specs.declared.expr.Group.TheVariants as groups
use Rattle.df_ntree.specs.declared.expr.TreeType.{TreeType}
use Rattle.df_ntree.specs.Expr.{Expr, Number, Character, Truth, Name, Parentheses, Call, Unary, Cast, Operations, Leading, Members, end, more}
use Rattle.df_ntree.specs.ExprSpelling.{first_group}
use Rattle.df_ntyping.specs.Types.{is_integer, counted, casts, fits_or_narrows, literal_type, is_order, all_of, keeps_direction}
use Rattle.df_ntyping.specs.Table.{type_of}
use Rattle.df_ntyping.specs.Environment.{Local, Environment, local_type}
use Rattle.df_ntyping.specs.Meaning.{TheLocal, Means}
use Rattle.df_ntyping.specs.Places.{pos_of, beginning_of}
use Rattle.df_ntyping.specs.ExprTypes.{value_of, counted_of, wanted_first, wanted_behind, expected_inside}

-- ---- conversions

-- A value of one type at a place of another is converted, where the source expression stands.
abbrev pub ConvertsBy : Bool → Ty → Ty → Expr → typed.Expr → typed.Expr → Type 0
ConvertsBy true source target e inner t = t ≡ inner
ConvertsBy false source target e inner t = (at : Pos) × (pos_of e ≡ Some at) × (t ≡ typed.Convert source target at inner)

abbrev pub Converts : Ty → Ty → Expr → typed.Expr → typed.Expr → Type 0
Converts source target e inner t = ConvertsBy (same_type source target) source target e inner t

-- A row of `as`: each type is that of the value before the next.
abbrev pub AreCasts : Environment → Pos → Ty → typed.Expr → List TreeType → Ty → typed.Expr → Type 0
AreCasts env at source inner [] ty t = (ty ≡ source) × (t ≡ inner)
AreCasts env at source inner (tree ∷ others) ty t =
    (target : Ty) × (type_of env.table.newtypes tree ≡ Some target) × (casts source target ≡ true)
    × AreCasts env at target (typed.As source target at inner) others ty t

-- ---- runs: operations with their operands typed, all of one type

pub record Part : Type 0 where
  pub operator : BinaryOperator
  pub pos : Pos
  pub operand : typed.Expr

abbrev pub addend_operator : BinaryOperator → AddendOperator
addend_operator binary.Subtract = addends.Minus
addend_operator operator = addends.Plus

abbrev pub factor_operator : BinaryOperator → FactorOperator
factor_operator binary.Divide = factors.Divide
factor_operator binary.Modulo = factors.Modulo
factor_operator operator = factors.Times

abbrev pub comparison_of : BinaryOperator → Comparison
comparison_of binary.NotEqual = comparisons.NotEqual
comparison_of binary.Less = comparisons.Less
comparison_of binary.AtMost = comparisons.AtMost
comparison_of binary.Greater = comparisons.Greater
comparison_of binary.AtLeast = comparisons.AtLeast
comparison_of operator = comparisons.Equal

abbrev pub addends_of : List Part → typed.Addends
addends_of [] = typed.no_addend
addends_of (part ∷ parts) = typed.addend (addend_operator part.operator) part.pos part.operand (addends_of parts)

abbrev pub factors_of : List Part → typed.Factors
factors_of [] = typed.no_factor
factors_of (part ∷ parts) = typed.factor (factor_operator part.operator) part.pos part.operand (factors_of parts)

abbrev pub members_of : List Part → typed.Members
members_of [] = typed.no_member
members_of (part ∷ parts) = typed.member part.pos part.operand (members_of parts)

abbrev pub links_of : List Part → typed.Links
links_of [] = typed.no_link
links_of (part ∷ parts) = typed.link (comparison_of part.operator) part.pos part.operand (links_of parts)

-- A run of `<==` is one of `==>` from the right: what stands before an operation, in front of what is turned.
abbrev pub turned : typed.Expr → typed.Members → List Part → typed.Expr
turned first done [] = typed.Implies arrows.Explies first done
turned first done (part ∷ parts) = turned part.operand (typed.member part.pos first done) parts

-- numbers and characters are in order, all types are equal or not
abbrev pub compares : Ty → BinaryOperator → Bool
compares ty operator = not (is_order operator) || is_integer ty || same_type ty types.Char

-- The operations after a first operand, all operands of one type, make a typed expression of a type.
abbrev pub IsRun : Option Group → Members → Ty → typed.Expr → List Part → Ty → typed.Expr → Type 0
IsRun None rest of first parts ty t = ⊥
IsRun (Some groups.Sum) rest of first parts ty t = (is_integer of ≡ true) × (ty ≡ of) × (t ≡ typed.Sum of first (addends_of parts))
IsRun (Some groups.Product) rest of first parts ty t = (is_integer of ≡ true) × (ty ≡ of) × (t ≡ typed.Product of first (factors_of parts))
IsRun (Some groups.Comparison) rest of first parts ty t =
    (all_of (compares of) rest ≡ true) × (keeps_direction rest ≡ true) × (ty ≡ types.Bool) × (t ≡ typed.Chain of first (links_of parts))
IsRun (Some groups.Conjunction) rest of first parts ty t = (of ≡ types.Bool) × (ty ≡ types.Bool) × (t ≡ typed.Junction junctions.And first (members_of parts))
IsRun (Some groups.Disjunction) rest of first parts ty t = (of ≡ types.Bool) × (ty ≡ types.Bool) × (t ≡ typed.Junction junctions.Or first (members_of parts))
IsRun (Some groups.Implication) rest of first parts ty t = (of ≡ types.Bool) × (ty ≡ types.Bool) × (t ≡ typed.Implies arrows.Implies first (members_of parts))
IsRun (Some groups.Explication) rest of first parts ty t = (of ≡ types.Bool) × (ty ≡ types.Bool) × (t ≡ turned first typed.no_member parts)
IsRun (Some groups.Equivalence) rest of first parts ty t = (of ≡ types.Bool) × (ty ≡ types.Bool) × (t ≡ typed.Iff first (members_of parts))

-- a row that begins with its sign is one of `&&` or `||`
abbrev pub IsLeading : Option Group → typed.Expr → List Part → typed.Expr → Type 0
IsLeading (Some groups.Conjunction) first parts t = t ≡ typed.Junction junctions.And first (members_of parts)
IsLeading (Some groups.Disjunction) first parts t = t ≡ typed.Junction junctions.Or first (members_of parts)
IsLeading group first parts t = ⊥

-- ---- expressions

abbrev mutual
  -- The expression elaborates to the typed one, of a type, where a type is expected or none.
  pub Elaborates : Environment → Option Ty → Expr → Ty → typed.Expr → Type 0
  -- a literal takes the integer type that is expected
  Elaborates env expected (Number literal) ty t = (ty ≡ literal_type expected) × (t ≡ typed.Number ty (value_of literal) literal.pos)
  Elaborates env expected (Character code pos) ty t = (ty ≡ types.Char) × (t ≡ typed.Character code pos)
  Elaborates env expected (Truth value pos) ty t = (ty ≡ types.Bool) × (t ≡ typed.Truth value pos)
  -- a name is that of a local
  Elaborates env expected (Name ident) ty t =
      (local : Local) × Means env ident.name (TheLocal local) × (local_type env local.number ≡ Some ty) × (t ≡ typed.Local local.number ident.name ident.pos)
  Elaborates env expected (Parentheses pos inner) ty t = Elaborates env expected inner ty t
  -- a call stands in no expression
  Elaborates env expected (Call callee arguments) ty t = ⊥
  -- a minus takes an integer type, of which `nat` counts as `int`
  Elaborates env expected (Unary unary.Negate pos operand) ty t =
      (source : Ty) × (inner one : typed.Expr) × Elaborates env (counted_of expected) operand source inner
      × (is_integer source ≡ true) × Converts source (counted source) operand inner one × (ty ≡ counted source) × (t ≡ typed.Negate ty pos one)
  -- `!` takes a truth
  Elaborates env expected (Unary unary.Not pos operand) ty t =
      (inner : typed.Expr) × Elaborates env None operand types.Bool inner × (ty ≡ types.Bool) × (t ≡ typed.Not pos inner)
  Elaborates env expected (Cast operand all) ty t =
      (source : Ty) × (inner : typed.Expr) × (at : Pos) × Elaborates env None operand source inner × (beginning_of operand ≡ Some at) × AreCasts env at source inner all ty t
  -- the operands of a run are of one type, of which `nat` counts as `int`
  Elaborates env expected (Operations first rest) ty t =
      let wanted = wanted_first env (expected_inside (first_group rest) expected) first rest in
      (of source : Ty) × (inner one : typed.Expr) × (parts : List Part)
      × Elaborates env wanted first source inner × (counted source ≡ of) × Converts source of first inner one
      × AreOperands env (wanted_behind env wanted first) of rest parts × IsRun (first_group rest) rest of one parts ty t
  Elaborates env expected (Leading end) ty t = ⊥
  Elaborates env expected (Leading (more operator pos operand rest)) ty t =
      (one : typed.Expr) × (parts : List Part) × Elaborates env None operand types.Bool one × AreOperands env None types.Bool rest parts
      × (ty ≡ types.Bool) × IsLeading (first_group (more operator pos operand rest)) one parts t

  -- operations whose operands are of the type
  pub AreOperands : Environment → Option Ty → Ty → Members → List Part → Type 0
  AreOperands env wanted of end parts = parts ≡ []
  AreOperands env wanted of (more operator pos operand rest) parts =
      (source : Ty) × (inner one : typed.Expr) × (others : List Part)
      × Elaborates env wanted operand source inner × (counted source ≡ of) × Converts source of operand inner one
      × AreOperands env (wanted_behind env wanted operand) of rest others
      × (parts ≡ record { operator = operator; pos = pos; operand = one } ∷ others)

-- ---- what is asked of a whole expression

-- a value at a place of the type
abbrev pub ElaboratesAt : Environment → Ty → Expr → typed.Expr → Type 0
ElaboratesAt env place e t =
    (source : Ty) × (inner : typed.Expr) × Elaborates env (Some place) e source inner × (fits_or_narrows source place ≡ true) × Converts source place e inner t

-- a truth
abbrev pub ElaboratesTruth : Environment → Expr → typed.Expr → Type 0
ElaboratesTruth env e t = Elaborates env None e types.Bool t
