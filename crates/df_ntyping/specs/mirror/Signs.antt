-- Signs between operands that were looked at: what private contracts cite.
use Rattle.std.specs.Prelude.{ℤ, Bool, true, false, ◌&&◌, ◌||◌, not, List, [], ◌∷◌, Option, Some, None, Ok, Err, is_some, if◌then◌else◌}
use Rattle.df_base.specs.declared.pos.Pos.{Pos}
use Rattle.df_lang.specs.declared.ty.Ty.{Ty}
use Rattle.df_lang.specs.declared.ty.Ty.TheVariants as types
use Rattle.df_lang.specs.declared.expr.Junction.TheVariants as junctions
use Rattle.df_lang.specs.declared.expr.Arrow.TheVariants as arrows
use Rattle.df_lang.specs.Newtype.{same_type}
use Rattle.df_lang.specs.Expr as typed
use Rattle.df_ntree.specs.declared.tree.Literal.{Literal}
use Rattle.df_ntree.specs.declared.expr.BinaryOperator.{BinaryOperator}
use Rattle.df_ntree.specs.declared.expr.BinaryOperator.TheVariants as binary
use Rattle.df_ntree.specs.declared.expr.Group.{Group}
use Rattle.df_ntree.specs.declared.expr.Group.TheVariants as groups
use Rattle.df_ntree.specs.Expr.{Expr, Members, end, more}
use Rattle.df_ntyping.specs.Types.{counted, are_one_integer, literal_type, keeps_direction}
use Rattle.df_ntyping.specs.ExprTypes.{is_arithmetic, counted_of}
use Rattle.df_ntyping.specs.Places.{pos_of, first_sign}
use Rattle.df_ntyping.specs.ExprElaboration.{Part, addends_of, factors_of, members_of, links_of, turned}
use Rattle.df_ntyping.specs.rules.Comparisons.{are_ordered, one_fits}
use Rattle.df_ntyping.specs.rules.Truths.{is_truth}
use Rattle.df_ntyping.specs.Rule.{TypingRule}
use Rattle.df_ntyping.specs.Rule as rules
use Rattle.df_ntyping.specs.mirror.Parts.{Breach}
use Rattle.df_ntyping.specs.mirror.Parts.{Typed, Row, Answer, breach, type_of_operand, or_start}
use Rattle.df_ntyping.specs.mirror.Literals.{limited_value, opened_by}

-- ---- one sign

-- what a side counts as beside the other: one made of literals takes the type of the other
abbrev pub beside : Option Ty → Option Ty → Ty
beside (Some ty) other = ty
beside None other = literal_type (counted_of other)

abbrev pub rule_of : BinaryOperator → TypingRule
rule_of binary.Equal = rules.Equality
rule_of binary.NotEqual = rules.Equality
rule_of binary.Less = rules.Order
rule_of binary.AtMost = rules.Order
rule_of binary.Greater = rules.Order
rule_of binary.AtLeast = rules.Order
rule_of binary.Add = rules.Arithmetic
rule_of binary.Subtract = rules.Arithmetic
rule_of binary.Multiply = rules.Arithmetic
rule_of binary.Divide = rules.Arithmetic
rule_of binary.Modulo = rules.Arithmetic
rule_of operator = rules.Truths

-- the sign takes operands of these types
abbrev pub takes_by : TypingRule → Ty → Ty → Bool
takes_by rules.Equality left right = one_fits left right
takes_by rules.Order left right = are_ordered left right
takes_by rules.Arithmetic left right = are_one_integer left right
takes_by rule left right = is_truth left && is_truth right

abbrev pub is_implication : Option Group → Bool
is_implication (Some groups.Implication) = true
is_implication group = false

abbrev pub or_side : Option Ty → Option Ty → Option Ty
or_side (Some ty) other = Some ty
or_side None other = other

-- what stands on the left of the next sign
abbrev pub left_behind : Option Group → Option Ty → Option Ty → Option Ty
left_behind (Some groups.Sum) left right = counted_of (or_side left right)
left_behind (Some groups.Product) left right = counted_of (or_side left right)
left_behind (Some groups.Comparison) left right = or_side right (counted_of left)
left_behind group left right = Some types.Bool

abbrev pub sign_holds : Option Group → BinaryOperator → Option Ty → Option Ty → Bool
sign_holds group operator left right = is_implication group || takes_by (rule_of operator) (beside left right) (beside right left)

abbrev pub is_end : Members → Bool
is_end end = true
is_end (more operator pos operand rest) = false

-- ---- implications hold to the right

abbrev pub is_truth_side : Option Ty → Bool
is_truth_side None = false
is_truth_side (Some ty) = is_truth ty

abbrev pub is_last : List Row → Bool
is_last [] = true
is_last (row ∷ rows) = false

abbrev pub or_breach : Option Breach → Option Breach → Option Breach
or_breach (Some broken) other = Some broken
or_breach None other = other

-- the last sign that has no truths; the first one stands where the whole does
abbrev pub wrong_at : Bool → Option Ty → List Row → Option Breach
wrong_at is_first left [] = None
wrong_at is_first left (row ∷ rows) =
    let right = type_of_operand row.typed in
    or_breach (wrong_at false right rows) (if is_truth_side left && (is_truth_side right || not (is_last rows)) then None else Some (breach rules.Truths row.pos is_first))

-- ---- the whole run

abbrev pub if_broken : Option Breach → Answer (Unit {0})
if_broken None = Ok tt
if_broken (Some broken) = Err broken

abbrev pub whole_run : Option Group → Option Ty → Members → List Row → Answer (Unit {0})
whole_run (Some groups.Comparison) left rest rows = if keeps_direction rest then Ok tt else Err (breach rules.Direction (or_start (first_sign rest)) true)
whole_run (Some groups.Implication) left rest rows = if_broken (wrong_at true left rows)
whole_run group left rest rows = Ok tt

-- the type of the first operand that is not made of literals
abbrev pub first_type : List Row → Option Ty
first_type [] = None
first_type (row ∷ rows) = or_side (type_of_operand row.typed) (first_type rows)

-- what all operands of a run count as
abbrev pub type_of_run : Option Ty → Ty
type_of_run None = types.Int
type_of_run (Some ty) = counted ty

-- ---- conversions

abbrev pub converted_to : Ty → Pos → Typed → typed.Expr
converted_to target at t = if same_type t.ty target then t.expr else typed.Convert t.ty target at t.expr

-- an operand at a place of the type
abbrev pub settled_by : (Literal → ℤ) → Ty → Expr → Option Typed → typed.Expr
settled_by value of e (Some t) = converted_to of (or_start (pos_of e)) t
settled_by value of e None = converted_to of (or_start (pos_of e)) (opened_by value of e)

abbrev pub all_settled_by : (Literal → ℤ) → Ty → List Row → List Part
all_settled_by value of [] = []
all_settled_by value of (row ∷ rows) = record { operator = row.operator; pos = row.pos; operand = settled_by value of row.operand row.typed } ∷ all_settled_by value of rows

abbrev pub settled : Ty → Expr → Option Typed → typed.Expr
settled = settled_by limited_value

abbrev pub settled_parts : Ty → List Row → List Part
settled_parts = all_settled_by limited_value

-- ---- the typed run

abbrev pub run_expr : Option Group → Ty → typed.Expr → List Part → typed.Expr
run_expr (Some groups.Sum) of first parts = typed.Sum of first (addends_of parts)
run_expr (Some groups.Product) of first parts = typed.Product of first (factors_of parts)
run_expr (Some groups.Comparison) of first parts = typed.Chain of first (links_of parts)
run_expr (Some groups.Conjunction) of first parts = typed.Junction junctions.And first (members_of parts)
run_expr (Some groups.Disjunction) of first parts = typed.Junction junctions.Or first (members_of parts)
run_expr (Some groups.Implication) of first parts = typed.Implies arrows.Implies first (members_of parts)
run_expr (Some groups.Explication) of first parts = turned first typed.no_member parts
run_expr (Some groups.Equivalence) of first parts = typed.Iff first (members_of parts)
run_expr None of first parts = typed.Iff first (members_of parts)

abbrev pub run_ty : Option Group → Ty → Ty
run_ty (Some groups.Sum) of = of
run_ty (Some groups.Product) of = of
run_ty group of = types.Bool

-- none where all operands are made of literals, and so is what is made of them
abbrev pub run_by : (Literal → ℤ) → Option Group → Expr → Option Typed → List Row → Option Typed
run_by value group first head rows =
    let known = or_side (type_of_operand head) (first_type rows) in
    let of = type_of_run known in
    if is_arithmetic group && not (is_some known) then None
    else Some (record { ty = run_ty group of; expr = run_expr group of (settled_by value of first head) (all_settled_by value of rows) })

abbrev pub run_of : Option Group → Expr → Option Typed → List Row → Option Typed
run_of = run_by limited_value
