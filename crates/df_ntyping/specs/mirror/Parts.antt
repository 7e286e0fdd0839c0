-- What a walk over an expression answers: a typed form, or the first rule that is broken.
use Rattle.std.specs.Prelude.{Bool, false, Option, Some, None, Result, Ok, Err}
use Rattle.df_base.specs.declared.pos.Pos.{Pos}
use Rattle.df_base.specs.declared.refusal.Code.TheVariants as codes
use Rattle.df_base.specs.declared.refusal.Detail.TheVariants as details
use Rattle.df_base.specs.declared.refusal.Refusal.{Refusal}
use Rattle.df_lang.specs.declared.ty.Ty.{Ty}
use Rattle.df_lang.specs.Expr as typed
use Rattle.df_ntree.specs.declared.expr.BinaryOperator.{BinaryOperator}
use Rattle.df_ntree.specs.Expr.{Expr}
use Rattle.df_ntyping.specs.Rule.{TypingRule, typing_number}

-- a type, and an expression of it
pub record Typed : Type 0 where
  pub ty : Ty
  pub expr : typed.Expr

-- of an operand, which has none where it is made of literals alone
abbrev pub type_of_operand : Option Typed → Option Ty
type_of_operand None = None
type_of_operand (Some t) = Some t.ty

-- an operation whose operand was looked at
pub record Row : Type 0 where
  pub operator : BinaryOperator
  pub pos : Pos
  pub operand : Expr
  pub typed : Option Typed

-- ---- what is broken

-- a rule, where it is told, and whether the node that breaks it is as long as the whole expression
pub record Breach : Type 0 where
  pub rule : TypingRule
  pub pos : Pos
  pub is_whole : Bool

abbrev pub breach : TypingRule → Pos → Bool → Breach
breach rule pos is_whole = record { rule = rule; pos = pos; is_whole = is_whole }

abbrev pub refusal_of : Breach → Refusal
refusal_of broken = record { code = codes.Typing; pos = broken.pos; detail = details.Rule (typing_number broken.rule) }

-- ---- answers

abbrev pub Answer : Type 0 → Type 0
Answer A = Result A Breach

abbrev pub and_then : {A B : Type 0} → Answer A → (A → Answer B) → Answer B
and_then (Ok a) f = f a
and_then (Err broken) f = Err broken

-- of a part: not where the whole stands
abbrev pub inside : {A : Type 0} → Answer A → Answer A
inside (Ok a) = Ok a
inside (Err broken) = Err (breach broken.rule broken.pos false)

abbrev pub void : {A : Type 0} → Answer A → Answer (Unit {0})
void (Ok a) = Ok tt
void (Err broken) = Err broken

-- where nothing stands
abbrev pub or_start : Option Pos → Pos
or_start (Some pos) = pos
or_start None = record { line = 0; col = 0 }
