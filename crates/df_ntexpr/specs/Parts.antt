-- What the code answers, as the walk over an expression has it.
use Rattle.std.specs.Prelude.{◌≡◌, Bool, true, Option, Some, None, Result, Ok, Err}
use Rattle.df_base.specs.declared.pos.Pos.{Pos}
use Rattle.df_lang.specs.ExprView.{expr_of}
use Rattle.df_lang.specs.declared.ty.Ty.{Ty}
use Rattle.df_ntree.specs.declared.expr.BinaryOperator.{BinaryOperator}
use Rattle.df_ntree.specs.declared.expr.Group.{Group}
use Rattle.df_ntree.specs.Expr as tree
use Rattle.df_ntyping.specs.Environment.{Environment}
use Rattle.df_ntyping.specs.Meaning.{called_signature}
use Rattle.df_ntyping.specs.Places.{beginning_of}
use Rattle.df_ntyping.specs.ExprNodes.{places_of, count}
use Rattle.df_ntyping.specs.Rule as rules
use Rattle.df_ntyping.specs.Rule.{TypingRule}
use Rattle.df_ntyping.specs.ExprElaboration as elaboration
use Rattle.df_ntyping.specs.mirror.Parts.{Typed, Row, Breach, Answer, breach, and_then, type_of_operand, or_start}
use Rattle.df_ntyping.specs.mirror.Looking.{signed, call_rule, look_arguments}
use Rattle.df_ntexpr.specs.declared.broken.Rule.{Rule}
use Rattle.df_ntexpr.specs.declared.broken.Rule.TheVariants as own
use Rattle.df_ntexpr.specs.declared.broken.Broken.{Broken}
use Rattle.df_ntexpr.specs.declared.broken.Halt.{Halt}
use Rattle.df_ntexpr.specs.declared.broken.Halt.TheVariants as halts
use Rattle.df_ntexpr.specs.declared.part.Typed as declared_typed
use Rattle.df_ntexpr.specs.declared.part.Row as declared_row
use Rattle.df_ntexpr.specs.declared.part.Part as declared_part

abbrev pub typed_of : declared_typed.Typed → Typed
typed_of t = record { ty = t.ty; expr = expr_of t.expr }

-- an operand: none where it is made of literals alone
abbrev pub operand_of : Option declared_typed.Typed → Option Typed
operand_of None = None
operand_of (Some t) = Some (typed_of t)

abbrev pub row_of : declared_row.Row → Row
row_of row = record { operator = row.operator; pos = row.pos; operand = tree.expr_of row.operand.now; typed = operand_of row.typed }

abbrev pub part_of : declared_part.Part → elaboration.Part
part_of part = record { operator = part.operator; pos = part.pos; operand = expr_of part.operand }

-- ---- what is broken

abbrev pub typing_rule : Rule → TypingRule
typing_rule own.Given = rules.Given
typing_rule own.Arithmetic = rules.Arithmetic
typing_rule own.Order = rules.Order
typing_rule own.Equality = rules.Equality
typing_rule own.Direction = rules.Direction
typing_rule own.Truths = rules.Truths
typing_rule own.ArgumentCount = rules.ArgumentCount
typing_rule own.Calls = rules.Calls
typing_rule own.Casts = rules.Casts

abbrev pub breach_of : Broken → Breach
breach_of broken = breach (typing_rule broken.rule) broken.pos broken.is_whole

abbrev pub breaches : Option Broken → Option Breach
breaches None = None
breaches (Some broken) = Some (breach_of broken)

-- ---- answers

-- a call, behind what is called
abbrev pub called_with : Environment → tree.Expr → tree.Arguments → Answer (Option Typed)
called_with env callee all =
    and_then (look_arguments env (places_of (called_signature env callee)) all) (λ (done : Unit {0}). Err (breach (call_rule (called_signature env callee) (count all)) (or_start (beginning_of callee)) true))

-- an operation whose sign was looked at, with its operand
abbrev pub signed_row : Option Group → BinaryOperator → Pos → tree.Expr → Option Ty → Option Typed → Bool → Answer Row
signed_row group operator at operand left o is_whole =
    and_then (signed group operator at left (type_of_operand o) is_whole) (λ (done : Unit {0}). Ok (record { operator = operator; pos = at; operand = operand; typed = o }))

-- the code's answer is this one, through a view; of want of memory nothing is said
abbrev pub Gives : {X Y : Type 0} → (X → Y) → Result X Halt → Answer Y → Type 0
Gives view (Ok x) answer = answer ≡ Ok (view x)
Gives view (Err (halts.Broken broken)) answer = answer ≡ Err (breach_of broken)
Gives view (Err halts.Memory) answer = Unit {0}
