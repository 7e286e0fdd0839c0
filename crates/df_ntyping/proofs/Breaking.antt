-- Which rules a node can break.
use Rattle.std.proofs.Common.{◌≡◌, ℕ, Bool, true, false, not, ◌&&◌, Option, Some, None, refl, sym, ◌∙◌}
use Rattle.std.specs.Prelude.{is_some}
use Rattle.std.proofs.lemmas.Bool.{and_parts}
use Rattle.df_base.specs.declared.pos.Pos.{Pos}
use Rattle.df_lang.specs.declared.ty.Ty.{Ty}
use Rattle.df_ntree.specs.declared.tree.Ident.{Ident}
use Rattle.df_ntree.specs.declared.expr.BinaryOperator.{BinaryOperator}
use Rattle.df_ntree.specs.declared.expr.BinaryOperator.TheVariants as binary
use Rattle.df_ntree.specs.Operator.{group_of}
use Rattle.df_ntree.specs.Expr.{Expr, Members}
use Rattle.df_ntyping.specs.Types.{is_integer, are_one_integer, casts, fits_or_narrows, if_known, if_type_known, is_order, keeps_direction}
use Rattle.df_ntyping.specs.Table.{newtype_of}
use Rattle.df_ntyping.specs.Environment.{Environment}
use Rattle.df_ntyping.specs.Meaning.{meaning_of, called_signature}
use Rattle.df_ntyping.specs.ExprTypes.{is_arithmetic, type_in}
use Rattle.df_ntyping.specs.ExprNodes.{occurrence}
use Rattle.df_ntyping.specs.Node as nodes
use Rattle.df_ntyping.specs.Node.{Node, Occurrence}
use Rattle.df_ntyping.specs.Rule.{Rule, Unknown, Twice, Typing, Uninferred, Range, TypingRule, Given, Arithmetic, Order, Equality, Direction, Truths, ArgumentCount, Calls, Casts, Assigned, Returned, Broken, Clauses, stage_of}
use Rattle.df_ntyping.specs.Breaks.{breaks}
use Rattle.df_ntyping.specs.rules.Calls.{takes, is_method}
use Rattle.df_ntyping.specs.rules.Comparisons.{is_equality, are_ordered, one_fits}
use Rattle.df_ntyping.specs.rules.Truths.{is_logical, is_truth}
use Rattle.df_ntyping.specs.Rule as own
use Rattle.df_ntyping.specs.Rule.{TypingRule as Own}
use Rattle.df_ntyping.specs.mirror.Signs.{rule_of, takes_by}
use Rattle.df_ntyping.proofs.FirstFault.{Only, is_lower, lower_self}

not_both : (b : Bool) → b ≡ true → not b ≡ true → ⊥
not_both true p h = cc
not_both false p h = cc

and_not : (b c : Bool) → c ≡ true → (b && not c) ≡ true → ⊥
and_not true c p h = not_both c p h
and_not false c p h = cc

-- ---- names

pub used_only : (env : Environment) (ident : Ident) (start after : ℕ) → is_some (meaning_of env ident.name) ≡ true → Only (occurrence env (nodes.UsedName ident) start after) (λ rule. ⊥)
used_only env ident start after p Unknown h = not_both (is_some (meaning_of env ident.name)) p h
used_only env ident start after p (Typing Given) h = cc
used_only env ident start after p rule h = cc

pub type_only : (env : Environment) (ident : Ident) (start after : ℕ) → is_some (newtype_of env.table.newtypes ident.name) ≡ true → Only (occurrence env (nodes.UsedType ident) start after) (λ rule. ⊥)
type_only env ident start after p Unknown h = not_both (is_some (newtype_of env.table.newtypes ident.name)) p h
type_only env ident start after p (Typing Given) h = cc
type_only env ident start after p rule h = cc

pub plain_only : (env : Environment) (ident : Ident) (start after : ℕ) → is_method (meaning_of env ident.name) ≡ false → Only (occurrence env (nodes.Plain ident) start after) (λ rule. ⊥)
plain_only env ident start after p (Typing Calls) h = let same : false ≡ true = sym p ∙ h in cc
plain_only env ident start after p rule h = cc

pub plain_rule : (env : Environment) (ident : Ident) (rule : Rule) → breaks env (nodes.Plain ident) rule ≡ true → rule ≡ Typing Calls
plain_rule env ident (Typing Calls) h = refl
plain_rule env ident rule h = absurd cc

pub plain_broken : (env : Environment) (ident : Ident) (start after : ℕ) → Only (occurrence env (nodes.Plain ident) start after) (λ rule. stage_of rule ≡ 1 → is_lower rule (Typing Calls) ≡ false)
plain_broken env ident start after (Typing Calls) h q = lower_self (Typing Calls)
plain_broken env ident start after rule h q = absurd cc

-- ---- one operand

pub minus_only : (env : Environment) (operand : Option Ty) (pos : Pos) (start after : ℕ) → if_type_known is_integer operand ≡ true → Only (occurrence env (nodes.Minus operand pos) start after) (λ rule. ⊥)
minus_only env operand pos start after p (Typing Arithmetic) h = not_both (if_type_known is_integer operand) p h
minus_only env operand pos start after p rule h = cc

pub minus_broken : (env : Environment) (operand : Option Ty) (pos : Pos) (start after : ℕ) → Only (occurrence env (nodes.Minus operand pos) start after) (λ rule. stage_of rule ≡ 1 → is_lower rule (Typing Arithmetic) ≡ false)
minus_broken env operand pos start after (Typing Arithmetic) h q = lower_self (Typing Arithmetic)
minus_broken env operand pos start after rule h q = absurd cc

pub negation_only : (env : Environment) (operand : Option Ty) (pos : Pos) (start after : ℕ) → if_type_known is_truth operand ≡ true → Only (occurrence env (nodes.Negation operand pos) start after) (λ rule. ⊥)
negation_only env operand pos start after p (Typing Truths) h = not_both (if_type_known is_truth operand) p h
negation_only env operand pos start after p rule h = cc

pub negation_broken : (env : Environment) (operand : Option Ty) (pos : Pos) (start after : ℕ) → Only (occurrence env (nodes.Negation operand pos) start after) (λ rule. stage_of rule ≡ 1 → is_lower rule (Typing Truths) ≡ false)
negation_broken env operand pos start after (Typing Truths) h q = lower_self (Typing Truths)
negation_broken env operand pos start after rule h q = absurd cc

pub conversion_only : (env : Environment) (source target : Option Ty) (pos : Option Pos) (start after : ℕ) → if_known casts source target ≡ true → Only (occurrence env (nodes.Conversion source target pos) start after) (λ rule. ⊥)
conversion_only env source target pos start after p (Typing Casts) h = not_both (if_known casts source target) p h
conversion_only env source target pos start after p rule h = cc

pub conversion_broken : (env : Environment) (source target : Option Ty) (pos : Option Pos) (start after : ℕ) → Only (occurrence env (nodes.Conversion source target pos) start after) (λ rule. stage_of rule ≡ 1 → is_lower rule (Typing Casts) ≡ false)
conversion_broken env source target pos start after (Typing Casts) h q = lower_self (Typing Casts)
conversion_broken env source target pos start after rule h q = absurd cc

-- ---- signs

-- the sign takes the two, as far as they are known
abbrev pub takes_known : Own → Option Ty → Option Ty → Bool
takes_known own.Equality left right = if_known one_fits left right
takes_known own.Order left right = if_known are_ordered left right
takes_known own.Arithmetic left right = if_known are_one_integer left right
takes_known rule left right = if_type_known is_truth left && if_type_known is_truth right

pub known_both : (rule : Own) (left right : Ty) → takes_known rule (Some left) (Some right) ≡ takes_by rule left right
known_both own.Arithmetic left right = refl
known_both own.Order left right = refl
known_both own.Equality left right = refl
known_both rule left right = refl

arithmetic_rule : (operator : BinaryOperator) → is_arithmetic (Some (group_of operator)) ≡ true → rule_of operator ≡ own.Arithmetic
arithmetic_rule binary.Add h = refl
arithmetic_rule binary.Subtract h = refl
arithmetic_rule binary.Multiply h = refl
arithmetic_rule binary.Divide h = refl
arithmetic_rule binary.Modulo h = refl
arithmetic_rule operator h = absurd cc

order_rule : (operator : BinaryOperator) → is_order operator ≡ true → rule_of operator ≡ own.Order
order_rule binary.Less h = refl
order_rule binary.AtMost h = refl
order_rule binary.Greater h = refl
order_rule binary.AtLeast h = refl
order_rule operator h = absurd cc

equality_rule : (operator : BinaryOperator) → is_equality operator ≡ true → rule_of operator ≡ own.Equality
equality_rule binary.Equal h = refl
equality_rule binary.NotEqual h = refl
equality_rule operator h = absurd cc

logical_rule : (operator : BinaryOperator) → is_logical operator ≡ true → rule_of operator ≡ own.Truths
logical_rule binary.And h = refl
logical_rule binary.Or h = refl
logical_rule binary.Implies h = refl
logical_rule binary.Explies h = refl
logical_rule binary.Iff h = refl
logical_rule operator h = absurd cc

-- what a sign breaks is its rule, and then it does not take the two
pub sign_rule : (env : Environment) (left : Option Ty) (operator : BinaryOperator) (pos : Pos) (right : Option Ty) (rule : Rule) → breaks env (nodes.Sign left operator pos right) rule ≡ true
    → (rule ≡ Typing (rule_of operator)) × (takes_known (rule_of operator) left right ≡ true → ⊥)
sign_rule env left operator pos right (Typing Arithmetic) h =
    let parts = and_parts (is_arithmetic (Some (group_of operator))) (not (if_known are_one_integer left right)) h in
    let same = arithmetic_rule operator parts.0 in
    rw same (refl, λ p. not_both (if_known are_one_integer left right) p parts.1)
sign_rule env left operator pos right (Typing Order) h =
    let parts = and_parts (is_order operator) (not (if_known are_ordered left right)) h in
    let same = order_rule operator parts.0 in
    rw same (refl, λ p. not_both (if_known are_ordered left right) p parts.1)
sign_rule env left operator pos right (Typing Equality) h =
    let parts = and_parts (is_equality operator) (not (if_known one_fits left right)) h in
    let same = equality_rule operator parts.0 in
    rw same (refl, λ p. not_both (if_known one_fits left right) p parts.1)
sign_rule env left operator pos right (Typing Truths) h =
    let parts = and_parts (is_logical operator) (not (if_type_known is_truth left && if_type_known is_truth right)) h in
    let same = logical_rule operator parts.0 in
    rw same (refl, λ p. not_both (if_type_known is_truth left && if_type_known is_truth right) p parts.1)
sign_rule env left operator pos right rule h = absurd cc

pub sign_only : (env : Environment) (left : Option Ty) (operator : BinaryOperator) (pos : Pos) (right : Option Ty) (start after : ℕ) → takes_known (rule_of operator) left right ≡ true
    → Only (occurrence env (nodes.Sign left operator pos right) start after) (λ rule. ⊥)
sign_only env left operator pos right start after p rule h = (sign_rule env left operator pos right rule h).1 p

pub sign_lowest : (env : Environment) (left : Option Ty) (operator : BinaryOperator) (pos : Pos) (right : Option Ty) (start after : ℕ)
    → Only (occurrence env (nodes.Sign left operator pos right) start after) (λ rule. stage_of rule ≡ 1 → is_lower rule (Typing (rule_of operator)) ≡ false)
sign_lowest env left operator pos right start after rule h q = rw ((sign_rule env left operator pos right rule h).0) (lower_self (Typing (rule_of operator)))

pub sign_broken : (env : Environment) (left : Option Ty) (operator : BinaryOperator) (pos : Pos) (right : Option Ty) → takes_known (rule_of operator) left right ≡ false
    → breaks env (nodes.Sign left operator pos right) (Typing (rule_of operator)) ≡ true
sign_broken env left binary.Iff pos right p = rw p refl
sign_broken env left binary.Implies pos right p = rw p refl
sign_broken env left binary.Explies pos right p = rw p refl
sign_broken env left binary.And pos right p = rw p refl
sign_broken env left binary.Or pos right p = rw p refl
sign_broken env left binary.Equal pos right p = rw p refl
sign_broken env left binary.NotEqual pos right p = rw p refl
sign_broken env left binary.Less pos right p = rw p refl
sign_broken env left binary.AtMost pos right p = rw p refl
sign_broken env left binary.Greater pos right p = rw p refl
sign_broken env left binary.AtLeast pos right p = rw p refl
sign_broken env left binary.Add pos right p = rw p refl
sign_broken env left binary.Subtract pos right p = rw p refl
sign_broken env left binary.Multiply pos right p = rw p refl
sign_broken env left binary.Divide pos right p = rw p refl
sign_broken env left binary.Modulo pos right p = rw p refl

-- ---- chains

pub chain_only : (env : Environment) (members : Members) (start after : ℕ) → keeps_direction members ≡ true → Only (occurrence env (nodes.Chain members) start after) (λ rule. ⊥)
chain_only env members start after p (Typing Direction) h = not_both (keeps_direction members) p h
chain_only env members start after p rule h = cc

pub chain_broken : (env : Environment) (members : Members) (start after : ℕ) → Only (occurrence env (nodes.Chain members) start after) (λ rule. stage_of rule ≡ 1 → is_lower rule (Typing Direction) ≡ false)
chain_broken env members start after (Typing Direction) h q = lower_self (Typing Direction)
chain_broken env members start after rule h q = absurd cc

-- a fault of order or equality comes before one of direction
pub chain_later : (env : Environment) (members : Members) (rule : Rule) → breaks env (nodes.Chain members) rule ≡ true → rule ≡ Typing Direction
chain_later env members (Typing Direction) h = refl
chain_later env members rule h = absurd cc

-- ---- calls

pub counted_call : (env : Environment) (callee : Expr) (arguments : ℕ) (start after : ℕ) → Only (occurrence env (nodes.Call false callee arguments) start after) (λ rule. stage_of rule ≡ 1 → is_lower rule (Typing ArgumentCount) ≡ false)
counted_call env callee arguments start after (Typing ArgumentCount) h q = lower_self (Typing ArgumentCount)
counted_call env callee arguments start after (Typing Calls) h q = refl
counted_call env callee arguments start after rule h q = absurd cc

pub inner_call : (env : Environment) (callee : Expr) (arguments : ℕ) (start after : ℕ) → takes (called_signature env callee) arguments ≡ true
    → Only (occurrence env (nodes.Call false callee arguments) start after) (λ rule. stage_of rule ≡ 1 → is_lower rule (Typing Calls) ≡ false)
inner_call env callee arguments start after p (Typing ArgumentCount) h q = absurd (not_both (takes (called_signature env callee) arguments) p h)
inner_call env callee arguments start after p (Typing Calls) h q = lower_self (Typing Calls)
inner_call env callee arguments start after p rule h q = absurd cc

-- ---- what is asked of the whole

pub value_only : (env : Environment) (place : Option Ty) (e : Expr) (start after : ℕ) → if_known fits_or_narrows (type_in env place e) place ≡ true → Only (occurrence env (nodes.Value place e) start after) (λ rule. ⊥)
value_only env place e start after p (Typing Given) h = not_both (if_known fits_or_narrows (type_in env place e) place) p h
value_only env place e start after p rule h = cc

pub value_broken : (env : Environment) (place : Option Ty) (e : Expr) (start after : ℕ) → Only (occurrence env (nodes.Value place e) start after) (λ rule. stage_of rule ≡ 1 → is_lower rule (Typing Given) ≡ false)
value_broken env place e start after (Typing Given) h q = lower_self (Typing Given)
value_broken env place e start after rule h q = absurd cc

pub condition_only : (env : Environment) (e : Expr) (start after : ℕ) → if_type_known is_truth (type_in env None e) ≡ true → Only (occurrence env (nodes.Condition e) start after) (λ rule. ⊥)
condition_only env e start after p (Typing Truths) h = not_both (if_type_known is_truth (type_in env None e)) p h
condition_only env e start after p rule h = cc

pub condition_rule : (env : Environment) (e : Expr) (rule : Rule) → breaks env (nodes.Condition e) rule ≡ true → rule ≡ Typing Truths
condition_rule env e (Typing Truths) h = refl
condition_rule env e rule h = absurd cc

pub value_rule : (env : Environment) (place : Option Ty) (e : Expr) (rule : Rule) → breaks env (nodes.Value place e) rule ≡ true → rule ≡ Typing Given
value_rule env place e (Typing Given) h = refl
value_rule env place e rule h = absurd cc
