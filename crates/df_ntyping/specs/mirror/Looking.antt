-- The walk over an expression: its typed form, or the first rule that it breaks. What private contracts cite.
use Rattle.std.specs.Prelude.{ℕ, ℤ, Bool, true, false, ◌&&◌, not, List, [], ◌∷◌, ◌++◌, Option, Some, None, Ok, Err, if◌then◌else◌}
use Rattle.df_base.specs.declared.pos.Pos.{Pos}
use Rattle.df_lang.specs.declared.ty.Ty.{Ty}
use Rattle.df_lang.specs.declared.ty.Ty.TheVariants as types
use Rattle.df_lang.specs.Expr as typed
use Rattle.df_ntree.specs.declared.tree.Ident.{Ident}
use Rattle.df_ntree.specs.declared.tree.Literal.{Literal}
use Rattle.df_ntree.specs.declared.expr.BinaryOperator.{BinaryOperator}
use Rattle.df_ntree.specs.declared.expr.UnaryOperator.TheVariants as unary
use Rattle.df_ntree.specs.declared.expr.Group.{Group}
use Rattle.df_ntree.specs.declared.expr.TreeType.{TreeType}
use Rattle.df_ntree.specs.Expr.{Expr, Number, Character, Truth, Name, Parentheses, Call, Unary, Cast, Operations, Leading, Members, end, more, Arguments, no_more, argument}
use Rattle.df_ntree.specs.ExprSpelling.{first_group}
use Rattle.df_ntyping.specs.Types.{is_integer, counted, casts, fits_or_narrows, if_known, if_type_known}
use Rattle.df_ntyping.specs.Table.{Signature, type_of}
use Rattle.df_ntyping.specs.Environment.{Environment, local_type}
use Rattle.df_ntyping.specs.Meaning.{Meaning, TheLocal, meaning_of, called_signature}
use Rattle.df_ntyping.specs.Places.{beginning_of, pos_of}
use Rattle.df_ntyping.specs.ExprTypes.{is_arithmetic, last_type, type_of_call}
use Rattle.df_ntyping.specs.ExprNodes.{places_of, first_place, other_places, count}
use Rattle.df_ntyping.specs.rules.Calls.{takes}
use Rattle.df_ntyping.specs.rules.Truths.{is_truth}
use Rattle.df_ntyping.specs.Rule.{TypingRule}
use Rattle.df_ntyping.specs.Rule as rules
use Rattle.df_ntyping.specs.mirror.Parts.{Typed, Row, Answer, and_then, inside, void, breach, type_of_operand, or_start}
use Rattle.df_ntyping.specs.mirror.Literals.{limited_value, opened_by}
use Rattle.df_ntyping.specs.mirror.Signs.{rule_of, sign_holds, left_behind, is_end, is_truth_side, whole_run, converted_to, run_by}

-- ---- names

abbrev pub local_meant : Environment → Option Meaning → Option (ℕ × Option Ty)
local_meant env (Some (TheLocal local)) = Some (local.number, local_type env local.number)
local_meant env meaning = None

-- the number and the type of the local that the name means
abbrev pub local_in : Environment → ℕ → Option (ℕ × Option Ty)
local_in env name = local_meant env (meaning_of env name)

abbrev pub typed_local : ℕ → Option Ty → Ident → Answer (Option Typed)
typed_local number (Some ty) ident = Ok (Some (record { ty = ty; expr = typed.Local number ident.name ident.pos }))
typed_local number None ident = Err (breach rules.Calls ident.pos true)

-- a method's name is no expression
abbrev pub named : Option (ℕ × Option Ty) → Ident → Answer (Option Typed)
named (Some local) ident = typed_local local.0 local.1 ident
named None ident = Err (breach rules.Calls ident.pos true)

-- ---- one operand

abbrev pub negated : Pos → Expr → Option Typed → Answer (Option Typed)
negated at operand None = Ok None
negated at operand (Some t) =
    if is_integer t.ty then Ok (Some (record { ty = counted t.ty; expr = typed.Negate (counted t.ty) at (converted_to (counted t.ty) (or_start (pos_of operand)) t) }))
    else Err (breach rules.Arithmetic at true)

abbrev pub denied : Pos → Option Typed → Answer (Option Typed)
denied at None = Err (breach rules.Truths at true)
denied at (Some t) = if is_truth t.ty then Ok (Some (record { ty = types.Bool; expr = typed.Not at t.expr })) else Err (breach rules.Truths at true)

-- as it is, or an `int`
abbrev pub finished_by : (Literal → ℤ) → Ty → Expr → Option Typed → Typed
finished_by value ty e None = opened_by value ty e
finished_by value ty e (Some t) = t

abbrev pub is_none_left : List TreeType → Bool
is_none_left [] = true
is_none_left (tree ∷ others) = false

abbrev pub cast_to : Pos → Typed → Option Ty → Bool → Answer Typed
cast_to at t (Some target) is_whole = if casts t.ty target then Ok (record { ty = target; expr = typed.As t.ty target at t.expr }) else Err (breach rules.Casts at is_whole)
cast_to at t None is_whole = Err (breach rules.Casts at is_whole)

-- a row of `as`
abbrev pub cast_all : Environment → Pos → Typed → List TreeType → Answer Typed
cast_all env at t [] = Ok t
cast_all env at t (tree ∷ others) = and_then (cast_to at t (type_of env.table.newtypes tree) (is_none_left others)) (λ (one : Typed). cast_all env at one others)

-- ---- what is asked of a whole expression

-- the type of an expression that breaks a rule as a whole, if it is known
abbrev pub outer_type : Environment → Expr → Option Ty
outer_type env (Call callee arguments) = type_of_call (called_signature env callee)
outer_type env (Unary unary.Not at operand) = Some types.Bool
outer_type env (Cast operand all) = last_type env all
outer_type env (Operations first rest) = if is_arithmetic (first_group rest) then None else Some types.Bool
outer_type env (Leading operations) = Some types.Bool
outer_type env e = None

-- a literal goes to each integer type
abbrev pub goes_to : Option Typed → Option Ty → Bool
goes_to None place = if_type_known is_integer place
goes_to (Some t) place = if_known fits_or_narrows (Some t.ty) place

abbrev pub given_type : Option Ty → Option Ty → Bool
given_type (Some own) place = if_known fits_or_narrows (Some own) place
given_type None place = true

-- it is given to a place
abbrev pub given : Environment → Option Ty → Expr → Answer (Option Typed) → Answer (Option Typed)
given env place e (Ok o) = if goes_to o place then Ok o else Err (breach rules.Given (or_start (pos_of e)) true)
given env place e (Err broken) = if broken.is_whole && not (given_type (outer_type env e) place) then Err (breach rules.Given (or_start (pos_of e)) true) else Err broken

-- the rules that come behind that of truths
abbrev pub is_later : TypingRule → Bool
is_later rules.Given = false
is_later rules.Arithmetic = false
is_later rules.Order = false
is_later rules.Equality = false
is_later rules.Direction = false
is_later rules.Truths = false
is_later rule = true

-- it is a condition
abbrev pub asked : Environment → Expr → Answer (Option Typed) → Answer (Option Typed)
asked env e (Ok o) = if is_truth_side (type_of_operand o) then Ok o else Err (breach rules.Truths (or_start (pos_of e)) true)
asked env e (Err broken) =
    if broken.is_whole && is_later broken.rule && not (if_type_known is_truth (outer_type env e)) then Err (breach rules.Truths (or_start (pos_of e)) true) else Err broken

-- ---- expressions

abbrev pub callee_inside : Expr → Answer (Option Typed) → Answer (Unit {0})
callee_inside (Name ident) answer = Ok tt
callee_inside callee answer = void (inside answer)

abbrev pub call_rule : Option Signature → ℕ → TypingRule
call_rule signature arguments = if takes signature arguments then rules.Calls else rules.ArgumentCount

abbrev pub signed : Option Group → BinaryOperator → Pos → Option Ty → Option Ty → Bool → Answer (Unit {0})
signed group operator at left right is_whole = if sign_holds group operator left right then Ok tt else Err (breach (rule_of operator) at is_whole)

abbrev pub with_row : Row → Answer (List Row) → Answer (List Row)
with_row row (Ok rows) = Ok (row ∷ rows)
with_row row (Err broken) = Err broken

-- with rows before them
abbrev pub behind_rows : List Row → Answer (List Row) → Answer (List Row)
behind_rows before (Ok rows) = Ok (before ++ rows)
behind_rows before (Err broken) = Err broken

-- operands that each have their sign before them
abbrev pub leading_by : (Literal → ℤ) → Option Group → List Row → Option Typed
leading_by value group [] = None
leading_by value group (row ∷ rows) = run_by value group row.operand row.typed rows

abbrev pub cast_by : (Literal → ℤ) → Environment → Expr → List TreeType → Option Typed → Answer (Option Typed)
cast_by value env operand all o = and_then (cast_all env (or_start (beginning_of operand)) (finished_by value types.Int operand o) all) (λ (t : Typed). Ok (Some t))

abbrev pub whole_by : (Literal → ℤ) → Option Group → Expr → Option Typed → Members → List Row → Answer (Option Typed)
whole_by value group first head rest rows = and_then (whole_run group (type_of_operand head) rest rows) (λ (done : Unit {0}). Ok (run_by value group first head rows))

abbrev mutual
  pub look_by : (Literal → ℤ) → Environment → Expr → Answer (Option Typed)
  look_by value env (Number literal) = Ok None
  look_by value env (Character code at) = Ok (Some (record { ty = types.Char; expr = typed.Character code at }))
  look_by value env (Truth truth at) = Ok (Some (record { ty = types.Bool; expr = typed.Truth truth at }))
  look_by value env (Name ident) = named (local_in env ident.name) ident
  look_by value env (Parentheses at inner) = inside (look_by value env inner)
  look_by value env (Call callee arguments) =
      and_then (callee_inside callee (look_by value env callee)) (λ (done : Unit {0}).
      and_then (arguments_by value env (places_of (called_signature env callee)) arguments) (λ (done : Unit {0}).
      Err (breach (call_rule (called_signature env callee) (count arguments)) (or_start (beginning_of callee)) true)))
  look_by value env (Unary unary.Negate at operand) = and_then (inside (look_by value env operand)) (negated at operand)
  look_by value env (Unary unary.Not at operand) = and_then (inside (look_by value env operand)) (denied at)
  look_by value env (Cast operand all) = and_then (inside (look_by value env operand)) (cast_by value env operand all)
  look_by value env (Operations first rest) =
      let group = first_group rest in
      and_then (inside (look_by value env first)) (λ (head : Option Typed).
      and_then (rows_by value env group (type_of_operand head) rest) (whole_by value group first head rest))
  look_by value env (Leading operations) =
      and_then (rows_by value env (first_group operations) (Some types.Bool) operations) (λ (rows : List Row). Ok (leading_by value (first_group operations) rows))

  pub rows_by : (Literal → ℤ) → Environment → Option Group → Option Ty → Members → Answer (List Row)
  rows_by value env group left end = Ok []
  rows_by value env group left (more operator at operand rest) =
      and_then (inside (look_by value env operand)) (λ (o : Option Typed).
      and_then (signed group operator at left (type_of_operand o) (is_end rest)) (λ (done : Unit {0}).
      with_row (record { operator = operator; pos = at; operand = operand; typed = o }) (rows_by value env group (left_behind group left (type_of_operand o)) rest)))

  pub arguments_by : (Literal → ℤ) → Environment → List (Option Ty) → Arguments → Answer (Unit {0})
  arguments_by value env places no_more = Ok tt
  arguments_by value env places (argument e rest) =
      and_then (void (inside (given env (first_place places) e (look_by value env e)))) (λ (done : Unit {0}). arguments_by value env (other_places places) rest)

-- ---- with the values of literals as the code has them

abbrev pub finished : Ty → Expr → Option Typed → Typed
finished = finished_by limited_value

abbrev pub leading_of : Option Group → List Row → Option Typed
leading_of = leading_by limited_value

abbrev pub cast_of : Environment → Expr → List TreeType → Option Typed → Answer (Option Typed)
cast_of = cast_by limited_value

abbrev pub run_in : Option Group → Expr → Option Typed → Members → List Row → Answer (Option Typed)
run_in = whole_by limited_value

abbrev pub look : Environment → Expr → Answer (Option Typed)
look = look_by limited_value

abbrev pub look_rows : Environment → Option Group → Option Ty → Members → Answer (List Row)
look_rows = rows_by limited_value

abbrev pub look_arguments : Environment → List (Option Ty) → Arguments → Answer (Unit {0})
look_arguments = arguments_by limited_value
