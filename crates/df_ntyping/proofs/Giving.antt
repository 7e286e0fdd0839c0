-- What is asked of an expression as a whole, and calls.
use Rattle.std.proofs.Common.{◌≡◌, ℕ, suc, ◌+◌, ◌<◌, ◌≤◌, Bool, true, false, not, ◌&&◌, List, [], ◌∷◌, ◌++◌, length, Option, Some, None, Ok, Err, refl, sym, ap, ◌∙◌, subst, ◌⊎◌, inl, inr, arith, append_assoc}
use Rattle.std.specs.Prelude.{Contains, if◌then◌else◌}
use Rattle.std.proofs.lemmas.Bool.{cases_lt}
use Rattle.std.proofs.lemmas.List.Elements.{Contains-append_right, Contains-append_cases}
use Rattle.df_lang.specs.declared.ty.Ty.{Ty}
use Rattle.df_lang.specs.declared.ty.Ty.TheVariants as types
use Rattle.df_ntree.specs.Expr.{Expr, Number, Character, Truth, Name, Parentheses, Call, Unary, Cast, Operations, Leading, Arguments, argument}
use Rattle.df_ntree.specs.ExprSpelling.{spell_arguments, IsExpr, AreArguments}
use Rattle.df_ntyping.specs.Types.{counted, is_integer, fits_or_narrows, if_known, if_type_known, literal_type}
use Rattle.df_ntyping.specs.Environment.{Environment}
use Rattle.df_ntyping.specs.Meaning.{called_signature}
use Rattle.df_ntyping.specs.Places.{beginning_of, pos_of}
use Rattle.df_ntyping.specs.ExprTypes.{is_open, open_type, type_in}
use Rattle.df_ntyping.specs.ExprNodes.{width, occurrence, token_at, places_of, first_place, other_places, count, callee_nodes, expr_nodes, argument_nodes, value_nodes, condition_nodes}
use Rattle.df_ntyping.specs.Node as nodes
use Rattle.df_ntyping.specs.Node.{Occurrence}
use Rattle.df_ntyping.specs.Rule.{Rule, Typing, TypingRule, Truths, Given, Calls, stage_of}
use Rattle.df_ntyping.specs.Breaks.{breaks}
use Rattle.df_ntyping.specs.Least.{Fault, IsFault, comes_before}
use Rattle.df_ntyping.specs.rules.Calls.{takes}
use Rattle.df_ntyping.specs.rules.Truths.{is_truth}
use Rattle.df_ntyping.proofs.Order.{Segment}
use Rattle.df_ntyping.proofs.LeastExists.{neg}
use Rattle.df_ntyping.proofs.ExprOrder.{expr_order, argument_order, callee_order, width_call}
use Rattle.df_ntyping.proofs.SideOrder.{value_order}
use Rattle.df_ntyping.proofs.Complete.{same_self}
use Rattle.df_ntyping.proofs.Types.{one_type}
use Rattle.df_ntyping.specs.Rule.{TypingRule as Own}
use Rattle.df_ntyping.specs.Rule as own
use Rattle.df_ntyping.specs.mirror.Parts.{Breach}
use Rattle.df_ntyping.specs.mirror.Parts.{Typed, Answer, and_then, inside, void, breach, type_of_operand, or_start}
use Rattle.df_ntyping.specs.mirror.Signs.{is_truth_side}
use Rattle.df_ntyping.specs.mirror.Looking.{outer_type, goes_to, given_type, given, is_later as comes_later, asked, callee_inside, call_rule}
use Rattle.df_ntyping.proofs.FirstFault.{Silent, NoNames, is_lower, lower_self, at_one_place, silent_none, silent_one, silent_both, named_both, named_one, first_or_rest, first_before, first_ahead, none_there, IsBehind}
use Rattle.df_ntyping.proofs.Breaking.{value_only, value_broken, condition_only, condition_rule, used_only, plain_rule, counted_call, inner_call}
use Rattle.df_ntyping.proofs.MeetingTypes.{integer_no_truth}
use Rattle.df_ntyping.proofs.OpenExprs.{any_expected}
use Rattle.df_ntyping.proofs.Silent.{open_integer}
use Rattle.df_ntyping.proofs.Standing.{begins_there, stands_there}
use Rattle.df_ntyping.proofs.Found.{Stands, Found, AllBeyond, beyond_one, beyond_both, beyond_segment, found_between, found_in_part, found_later, found_one, first_in_part}
use Rattle.df_ntyping.proofs.Verdict.{Looked, Verdict, looked_silent, used_alone}

-- ---- what a literal goes to

goes_itself : (ty : Ty) → fits_or_narrows ty ty ≡ true
goes_itself (types.Newtype a) = rw (same_self (types.Newtype a)) refl
goes_itself types.Int = refl
goes_itself types.Nat = refl
goes_itself types.Bool = refl
goes_itself types.Char = refl

counted_goes : (ty : Ty) → fits_or_narrows (counted ty) ty ≡ true
counted_goes (types.Newtype a) = rw (same_self (types.Newtype a)) refl
counted_goes types.Int = refl
counted_goes types.Nat = refl
counted_goes types.Bool = refl
counted_goes types.Char = refl

literal_itself : (ty : Ty) → is_integer ty ≡ true → literal_type (Some ty) ≡ ty
literal_itself ty p = rw p refl

open_goes : (ty : Ty) (e : Expr) → is_integer ty ≡ true → fits_or_narrows (open_type (Some ty) e) ty ≡ true
open_goes ty (Number literal) p = rw p (goes_itself ty)
open_goes ty (Parentheses at inner) p = open_goes ty inner p
open_goes ty e p = rw p (counted_goes ty)

never_goes : (source target : Ty) → is_integer source ≡ true → is_integer target ≡ false → fits_or_narrows source target ≡ false
never_goes (types.Newtype a) types.Bool p q = refl
never_goes (types.Newtype a) types.Char p q = refl
never_goes types.Int types.Bool p q = refl
never_goes types.Int types.Char p q = refl
never_goes types.Nat types.Bool p q = refl
never_goes types.Nat types.Char p q = refl
never_goes types.Bool target p q = absurd cc
never_goes types.Char target p q = absurd cc
never_goes source (types.Newtype b) p q = absurd cc
never_goes source types.Int p q = absurd cc
never_goes source types.Nat p q = absurd cc

-- whether a literal goes there is whether its type does
open_place : (ty : Ty) (e : Expr) (b : Bool) → is_integer ty ≡ b → fits_or_narrows (open_type (Some ty) e) ty ≡ b
open_place ty e true p = open_goes ty e p
open_place ty e false p = never_goes (open_type (Some ty) e) ty (open_integer (Some ty) e) p

pub goes_so : (env : Environment) (place : Option Ty) (e : Expr) (o : Option Typed) → IsExpr e → Looked env e o → if_known fits_or_narrows (type_in env place e) place ≡ goes_to o place
goes_so env None e None g v = rw v refl
goes_so env (Some ty) e None g v = rw v (open_place ty e (is_integer ty) refl)
goes_so env place e (Some t) g v = rw (one_type env place e t.ty t.expr g (any_expected env None place e t.ty t.expr v.0 v.1)) refl

truth_so : (env : Environment) (e : Expr) (o : Option Typed) → IsExpr e → Looked env e o → if_type_known is_truth (type_in env None e) ≡ is_truth_side (type_of_operand o)
truth_so env e None g v = rw v (integer_no_truth (open_type None e) (open_integer None e))
truth_so env e (Some t) g v = rw (one_type env None e t.ty t.expr g v.1) refl

-- ---- a node as long as the whole, behind it

-- where it breaks nothing
silent_whole : (env : Environment) (start : ℕ) (e : Expr) (one : Occurrence) (broken : Breach) → Found (expr_nodes env start e) start (start + width e) broken
    → ((rule : Rule) → breaks one.env one.node rule ≡ true → ⊥) → Found (expr_nodes env start e ++ one ∷ []) start (start + width e) broken
silent_whole env start e one broken found only = record {
  fault = found.fault;
  first = first_before (expr_nodes env start e) (one ∷ []) found.fault found.first (λ other h q. absurd ((silent_one one only).none other h));
  rule = found.rule;
  pos = found.pos;
  place = found.place;
}

-- where the fault is inside
inner_whole : (env : Environment) (start : ℕ) (e : Expr) (one : Occurrence) (broken : Breach) → IsExpr e → (found : Found (expr_nodes env start e) start (start + width e) broken) → Stands false start (start + width e) found.fault.at
    → one.start ≡ start → one.after ≡ start + width e → Found (expr_nodes env start e ++ one ∷ []) start (start + width e) broken
inner_whole env start e one broken g found stands p q = record {
  fault = found.fault;
  first = first_ahead (expr_nodes env start e) (one ∷ []) found.fault found.first (λ other h. behind other (first_or_rest one [] other h));
  rule = found.rule;
  pos = found.pos;
  place = found.place;
} where
  apart : (low high : ℕ) → low ≡ start → high ≡ start + width e → (start < found.fault.at.start) ⊎ (found.fault.at.after < start + width e) → (found.fault.at.after < high) ⊎ ((found.fault.at.after ≡ high) × (low < found.fault.at.start))
  apart low high r s (inr t) = inl (omega arith)
  apart low high r s (inl t) = by_cases (cases_lt found.fault.at.after high) where
    by_cases : (found.fault.at.after < high) ⊎ (high ≤ found.fault.at.after) → (found.fault.at.after < high) ⊎ ((found.fault.at.after ≡ high) × (low < found.fault.at.start))
    by_cases (inl u) = inl u
    by_cases (inr u) = let most : found.fault.at.after ≤ start + width e = stands.1 in inr (omega arith, omega arith)

  behind : (other : Occurrence) → (one ≡ other) ⊎ Contains [] other → IsBehind found.fault.at other
  behind other (inl r) = subst (λ (x : Occurrence). IsBehind found.fault.at x) r (apart one.start one.after p q stands.2)
  behind other (inr r) = absurd (none_there other r)

-- where it breaks a lower rule than the fault, and that is as long as the whole
lower_whole : (env : Environment) (start : ℕ) (e : Expr) (one : Occurrence) (broken other : Breach) (found : Found (expr_nodes env start e) start (start + width e) broken) (here : Found (one ∷ []) start (start + width e) other)
    → Stands true start (start + width e) found.fault.at → Stands true start (start + width e) here.fault.at → is_lower found.fault.rule here.fault.rule ≡ false → Found (expr_nodes env start e ++ one ∷ []) start (start + width e) other
lower_whole env start e one broken other found here p q lower = record {
  fault = here.fault;
  first = record {
    is = record {
      broken = ((Contains-append_right (expr_nodes env start e) (one ∷ []) here.fault.at here.first.is.broken.0.0, here.first.is.broken.0.1), here.first.is.broken.1);
      least = λ another h. by_cases another h.0 h.1 (Contains-append_cases (expr_nodes env start e) (one ∷ []) another.at h.0.0);
    };
  };
  rule = here.rule;
  pos = here.pos;
  place = here.place;
} where
  beside : comes_before found.fault here.fault ≡ false
  beside = at_one_place found.fault here.fault (found.first.is.broken.1 ∙ sym here.first.is.broken.1) (p.1 ∙ sym q.1) (p.0 ∙ sym q.0) ∙ lower

  by_cases : (another : Fault) → IsFault (expr_nodes env start e ++ one ∷ []) another → stage_of another.rule ≡ 1 → Contains (expr_nodes env start e) another.at ⊎ Contains (one ∷ []) another.at → comes_before another here.fault ≡ false
  by_cases another h t (inl c) = neg another found.fault here.fault (found.first.is.least another ((c, h.1), t)) beside
  by_cases another h t (inr c) = here.first.is.least another ((c, h.1), t)

-- where it breaks a rule that is not lower than the fault at one place
later_whole : (env : Environment) (start : ℕ) (e : Expr) (one : Occurrence) (rule : TypingRule) (broken : Breach) (found : Found (expr_nodes env start e) start (start + width e) broken) → Stands true start (start + width e) found.fault.at
    → one.start ≡ start → one.after ≡ start + width e → ((other : Rule) → breaks one.env one.node other ≡ true → other ≡ Typing rule) → is_lower (Typing rule) found.fault.rule ≡ false → Found (expr_nodes env start e ++ one ∷ []) start (start + width e) broken
later_whole env start e one rule broken found stands p q only lower = record {
  fault = found.fault;
  first = first_before (expr_nodes env start e) (one ∷ []) found.fault found.first (λ other h t. behind other h t (first_or_rest one [] other.at h.0));
  rule = found.rule;
  pos = found.pos;
  place = found.place;
} where
  behind : (other : Fault) → IsFault (one ∷ []) other → stage_of other.rule ≡ 1 → (one ≡ other.at) ⊎ Contains [] other.at → comes_before other found.fault ≡ false
  behind other h t (inl r) =
      let named : other.rule ≡ Typing rule = only other.rule (subst (λ (x : Occurrence). breaks x.env x.node other.rule ≡ true) (sym r) h.1) in
      at_one_place other found.fault (t ∙ sym found.first.is.broken.1) (ap (λ (x : Occurrence). x.after) (sym r) ∙ q ∙ sym stands.1) (ap (λ (x : Occurrence). x.start) (sym r) ∙ p ∙ sym stands.0)
      ∙ subst (λ (x : Rule). is_lower x found.fault.rule ≡ false) (sym named) lower
  behind other h t (inr r) = absurd (none_there other.at r)

-- ---- at a place

abbrev pub GivenVerdict : Environment → ℕ → Option Ty → Expr → Answer (Option Typed) → Type 0
GivenVerdict env start place e (Ok o) = Silent (value_nodes env start place e) × (goes_to o place ≡ true) × Looked env e o
GivenVerdict env start place e (Err broken) = Found (value_nodes env start place e) start (start + width e) broken

-- the rule of places comes before all others
given_lowest : (rule : Own) → is_lower (Typing rule) (Typing Given) ≡ false
given_lowest own.Given = refl
given_lowest rule = refl

outer_given : (own place : Option Ty) → given_type own place ≡ if_known fits_or_narrows own place
outer_given None place = refl
outer_given (Some ty) place = refl

abbrev value_at : Environment → ℕ → Option Ty → Expr → Occurrence
value_at env start place e = occurrence env (nodes.Value place e) start (start + width e)

value_found : (env : Environment) (start : ℕ) (place : Option Ty) (e : Expr) → IsExpr e → if_known fits_or_narrows (type_in env place e) place ≡ false
    → Found (value_at env start place e ∷ []) start (start + width e) (breach own.Given (or_start (pos_of e)) true)
value_found env start place e g p =
    found_one start (start + width e) (value_at env start place e) own.Given (or_start (pos_of e)) true (rw p refl) (value_broken env place e start (start + width e)) (stands_there e g) (refl, refl)

whole_stands : (env : Environment) (start : ℕ) (e : Expr) (broken : Breach) (found : Found (expr_nodes env start e) start (start + width e) broken) (b : Bool) → broken.is_whole ≡ b → Stands b start (start + width e) found.fault.at
whole_stands env start e broken found b p = subst (λ (x : Bool). Stands x start (start + width e) found.fault.at) p found.place

-- a fault as a whole is one of an expression that is not made of literals
closed_found : (env : Environment) (start : ℕ) (e : Expr) (broken : Breach) → IsExpr e → Found (expr_nodes env start e) start (start + width e) broken → is_open e ≡ false
closed_found env start e broken g found = by_cases (is_open e) refl where
  by_cases : (b : Bool) → is_open e ≡ b → is_open e ≡ false
  by_cases true o = absurd ((looked_silent env start e None g o).none found.fault found.first.is.broken.0)
  by_cases false o = o

type_outer : (env : Environment) (start : ℕ) (place : Option Ty) (e : Expr) (broken : Breach) → IsExpr e → Verdict env start e (Err broken) → broken.is_whole ≡ true → type_in env place e ≡ outer_type env e
type_outer env start place e broken g v p = rw (closed_found env start e broken g v.0) (v.1 p)

-- what is not told of the whole stays as it is
kept : (b : Bool) (one other : Answer (Option Typed)) → b ≡ false → (if b then one else other) ≡ other
kept true one other p = absurd cc
kept false one other p = refl

pub value_judged : (env : Environment) (start : ℕ) (place : Option Ty) (e : Expr) (answer : Answer (Option Typed)) → IsExpr e → Verdict env start e answer → GivenVerdict env start place e (given env place e answer)
value_judged env start place e (Ok o) g v = by_cases (goes_to o place) refl where
  by_cases : (b : Bool) → goes_to o place ≡ b → GivenVerdict env start place e (given env place e (Ok o))
  by_cases true p =
      rw p (silent_both (expr_nodes env start e) _ (looked_silent env start e o g v) (silent_one _ (value_only env place e start (start + width e) (goes_so env place e o g v ∙ p))), p, v)
  by_cases false p =
      rw p (found_later start (start + width e) (expr_nodes env start e) (value_at env start place e ∷ []) (breach own.Given (or_start (pos_of e)) true) (looked_silent env start e o g v) (value_found env start place e g (goes_so env place e o g v ∙ p)))
value_judged env start place e (Err broken) g v = by_whole broken.is_whole refl where
  given_kept : (broken.is_whole && not (given_type (outer_type env e) place)) ≡ false → GivenVerdict env start place e (Err broken) → GivenVerdict env start place e (given env place e (Err broken))
  given_kept p found = subst (GivenVerdict env start place e) (sym (kept (broken.is_whole && not (given_type (outer_type env e) place)) (Err (breach own.Given (or_start (pos_of e)) true)) (Err broken) p)) found

  by_type : broken.is_whole ≡ true → (b : Bool) → given_type (outer_type env e) place ≡ b → GivenVerdict env start place e (given env place e (Err broken))
  by_type w true p =
      let goes : if_known fits_or_narrows (type_in env place e) place ≡ true = ap (λ (ty : Option Ty). if_known fits_or_narrows ty place) (type_outer env start place e broken g v w) ∙ sym (outer_given (outer_type env e) place) ∙ p in
      given_kept (rw (w, p) refl) (silent_whole env start e (value_at env start place e) broken v.0 (value_only env place e start (start + width e) goes))
  by_type w false p =
      let goes : if_known fits_or_narrows (type_in env place e) place ≡ false = ap (λ (ty : Option Ty). if_known fits_or_narrows ty place) (type_outer env start place e broken g v w) ∙ sym (outer_given (outer_type env e) place) ∙ p in
      let here = value_found env start place e g goes in
      rw (w, p)
      (lower_whole env start e (value_at env start place e) broken (breach own.Given (or_start (pos_of e)) true) v.0 here (whole_stands env start e broken v.0 true w) here.place
      (subst (λ (x : Rule). is_lower x here.fault.rule ≡ false) (sym v.0.rule) (subst (λ (x : Rule). is_lower (Typing broken.rule) x ≡ false) (sym here.rule) (given_lowest broken.rule))))

  by_whole : (b : Bool) → broken.is_whole ≡ b → GivenVerdict env start place e (given env place e (Err broken))
  by_whole true w = by_type w (given_type (outer_type env e) place) refl
  by_whole false w = given_kept (rw w refl) (inner_whole env start e (value_at env start place e) broken g v.0 (whole_stands env start e broken v.0 false w) refl refl)

-- ---- as a condition

abbrev pub AskedVerdict : Environment → ℕ → Expr → Answer (Option Typed) → Type 0
AskedVerdict env start e (Ok o) = (is_truth_side (type_of_operand o) ≡ true) × Looked env e o
AskedVerdict env start e (Err broken) = Found (condition_nodes env start e) start (start + width e) broken

abbrev condition_at : Environment → ℕ → Expr → Occurrence
condition_at env start e = occurrence env (nodes.Condition e) start (start + width e)

condition_found : (env : Environment) (start : ℕ) (e : Expr) → IsExpr e → if_type_known is_truth (type_in env None e) ≡ false → Found (condition_at env start e ∷ []) start (start + width e) (breach own.Truths (or_start (pos_of e)) true)
condition_found env start e g p =
    found_one start (start + width e) (condition_at env start e) own.Truths (or_start (pos_of e)) true (rw p refl)
    (λ rule h q. subst (λ (x : Rule). is_lower x (Typing Truths) ≡ false) (sym (condition_rule env e rule h)) (lower_self (Typing Truths))) (stands_there e g) (refl, refl)

-- the rules that come behind that of truths, and those that do not
later_lower : (rule : Own) → comes_later rule ≡ true → is_lower (Typing rule) (Typing Truths) ≡ false
later_lower own.Given p = absurd cc
later_lower own.Arithmetic p = absurd cc
later_lower own.Order p = absurd cc
later_lower own.Equality p = absurd cc
later_lower own.Direction p = absurd cc
later_lower own.Truths p = absurd cc
later_lower rule p = refl

not_later : (rule : Own) → comes_later rule ≡ false → is_lower (Typing Truths) (Typing rule) ≡ false
not_later own.Given p = refl
not_later own.Arithmetic p = refl
not_later own.Order p = refl
not_later own.Equality p = refl
not_later own.Direction p = refl
not_later own.Truths p = refl
not_later rule p = absurd cc

pub condition_judged : (env : Environment) (start : ℕ) (e : Expr) (answer : Answer (Option Typed)) → IsExpr e → Verdict env start e answer → AskedVerdict env start e (asked env e answer)
condition_judged env start e (Ok o) g v = by_cases (is_truth_side (type_of_operand o)) refl where
  by_cases : (b : Bool) → is_truth_side (type_of_operand o) ≡ b → AskedVerdict env start e (asked env e (Ok o))
  by_cases true p = rw p (p, v)
  by_cases false p =
      rw p (found_later start (start + width e) (expr_nodes env start e) (condition_at env start e ∷ []) (breach own.Truths (or_start (pos_of e)) true) (looked_silent env start e o g v) (condition_found env start e g (truth_so env e o g v ∙ p)))
condition_judged env start e (Err broken) g v = by_whole broken.is_whole refl where
  asked_kept : (broken.is_whole && comes_later broken.rule && not (if_type_known is_truth (outer_type env e))) ≡ false → AskedVerdict env start e (Err broken) → AskedVerdict env start e (asked env e (Err broken))
  asked_kept p found =
      subst (AskedVerdict env start e) (sym (kept (broken.is_whole && comes_later broken.rule && not (if_type_known is_truth (outer_type env e))) (Err (breach own.Truths (or_start (pos_of e)) true)) (Err broken) p)) found

  by_type : broken.is_whole ≡ true → comes_later broken.rule ≡ true → (b : Bool) → if_type_known is_truth (outer_type env e) ≡ b → AskedVerdict env start e (asked env e (Err broken))
  by_type w l true p =
      let truth : if_type_known is_truth (type_in env None e) ≡ true = ap (if_type_known is_truth) (type_outer env start None e broken g v w) ∙ p in
      asked_kept (rw (w, l, p) refl) (silent_whole env start e (condition_at env start e) broken v.0 (condition_only env e start (start + width e) truth))
  by_type w l false p =
      let truth : if_type_known is_truth (type_in env None e) ≡ false = ap (if_type_known is_truth) (type_outer env start None e broken g v w) ∙ p in
      let here = condition_found env start e g truth in
      rw (w, l, p)
      (lower_whole env start e (condition_at env start e) broken (breach own.Truths (or_start (pos_of e)) true) v.0 here (whole_stands env start e broken v.0 true w) here.place
      (subst (λ (x : Rule). is_lower x here.fault.rule ≡ false) (sym v.0.rule) (subst (λ (x : Rule). is_lower (Typing broken.rule) x ≡ false) (sym here.rule) (later_lower broken.rule l))))

  by_rule : broken.is_whole ≡ true → (b : Bool) → comes_later broken.rule ≡ b → AskedVerdict env start e (asked env e (Err broken))
  by_rule w true l = by_type w l (if_type_known is_truth (outer_type env e)) refl
  by_rule w false l =
      asked_kept (rw (w, l) refl)
      (later_whole env start e (condition_at env start e) Truths broken v.0 (whole_stands env start e broken v.0 true w) refl refl (condition_rule env e)
      (subst (λ (x : Rule). is_lower (Typing Truths) x ≡ false) (sym v.0.rule) (not_later broken.rule l)))

  by_whole : (b : Bool) → broken.is_whole ≡ b → AskedVerdict env start e (asked env e (Err broken))
  by_whole true w = by_rule w (comes_later broken.rule) refl
  by_whole false w = asked_kept (rw w refl) (inner_whole env start e (condition_at env start e) broken g v.0 (whole_stands env start e broken v.0 false w) refl refl)

-- ---- arguments

abbrev pub PartVerdict : List Occurrence → Answer (Unit {0}) → Type 0
PartVerdict nodes (Ok done) = Silent nodes
PartVerdict nodes (Err broken) = (broken.is_whole ≡ false) × ((low high : ℕ) × Found nodes low high broken)

-- one that is not as long as the whole
pub inner_broken : (nodes : List Occurrence) (low high : ℕ) (broken : Breach) → broken.is_whole ≡ false → Found nodes low high (breach broken.rule broken.pos false) → Found nodes low high broken
inner_broken nodes low high broken p found = subst (λ (b : Bool). Found nodes low high (breach broken.rule broken.pos b)) (sym p) found

rest_beyond : (env : Environment) (start : ℕ) (places : List (Option Ty)) (e : Expr) (rest : Arguments) → AreArguments rest → AllBeyond start (start + width e) (argument_nodes env (start + width e + 1) places rest)
rest_beyond env start places e rest a =
    beyond_segment start (start + width e) (start + width e + 1) (start + width e + 1) (start + width e + 1 + length (spell_arguments rest)) _ (argument_order env (start + width e + 1) places rest a) (omega arith)

pub argument_judged : (env : Environment) (start : ℕ) (places : List (Option Ty)) (e : Expr) (rest : Arguments) (answer : Answer (Option Typed)) (others : Answer (Unit {0})) → IsExpr e → AreArguments rest → GivenVerdict env start (first_place places) e answer
    → PartVerdict (argument_nodes env (start + width e + 1) (other_places places) rest) others
    → PartVerdict (argument_nodes env start places (argument e rest)) (and_then (void (inside answer)) (λ (done : Unit {0}). others))
argument_judged env start places e rest (Ok o) (Ok done) g a v w =
    let behind = argument_nodes env (start + width e + 1) (other_places places) rest in
    subst Silent (append_assoc (expr_nodes env start e) (value_at env start (first_place places) e ∷ []) behind) (silent_both (value_nodes env start (first_place places) e) behind v.0 w)
argument_judged env start places e rest (Ok o) (Err broken) g a v (p, (low, high, found)) =
    let behind = argument_nodes env (start + width e + 1) (other_places places) rest in (
      p,
      (
        low,
        high,
        subst (λ (all : List Occurrence). Found all low high broken) (append_assoc (expr_nodes env start e) (value_at env start (first_place places) e ∷ []) behind)
            (found_later low high (value_nodes env start (first_place places) e) behind broken v.0 found),
      ),
    )
argument_judged env start places e rest (Err broken) others g a v w =
    let behind = argument_nodes env (start + width e + 1) (other_places places) rest in
    let own = value_nodes env start (first_place places) e in
    let segment : Segment start start (start + width e) own = value_order env start (first_place places) e g in
    let first = first_in_part start start (start + width e) own behind v.fault v.first segment (rest_beyond env start (other_places places) e rest a) in (
      refl,
      (
        start,
        start + width e + 1,
        subst (λ (all : List Occurrence). Found all start (start + width e + 1) (breach broken.rule broken.pos false)) (append_assoc (expr_nodes env start e) (value_at env start (first_place places) e ∷ []) behind)
            (found_in_part start (start + width e + 1) start start (start + width e) start (start + width e) own (own ++ behind) broken v first segment (omega arith) (omega arith) (inr (omega arith))),
      ),
    )

-- ---- calls

looked_part : (env : Environment) (start : ℕ) (e : Expr) (answer : Answer (Option Typed)) → IsExpr e → Verdict env start e answer → PartVerdict (expr_nodes env start e) (void (inside answer))
looked_part env start e (Ok o) g v = looked_silent env start e o g v
looked_part env start e (Err broken) g v =
    (refl, (start, start + width e + 1, found_in_part start (start + width e + 1) start start (start + width e) start (start + width e) (expr_nodes env start e) (expr_nodes env start e) broken v.0 v.0.first (expr_order env start e g) (omega arith) (omega arith) (inr (omega arith))))

-- a method's name as an expression breaks no rule of names
pub callee_named : (env : Environment) (start : ℕ) (callee : Expr) → NoNames (callee_nodes env start callee (expr_nodes env start callee)) → NoNames (expr_nodes env start callee)
callee_named env start (Name ident) n =
    named_both (token_at env (nodes.UsedName ident) start ∷ []) (token_at env (nodes.Plain ident) start ∷ []) n
    (named_one (token_at env (nodes.Plain ident) start) (λ rule h q. let same : stage_of rule ≡ 1 = ap stage_of (plain_rule env ident rule h) in let wrong : 1 ≡ 0 = sym same ∙ q in cc))
callee_named env start (Number literal) n = n
callee_named env start (Character code at) n = n
callee_named env start (Truth b at) n = n
callee_named env start (Parentheses at inner) n = n
callee_named env start (Call callee arguments) n = n
callee_named env start (Unary operator at operand) n = n
callee_named env start (Cast operand all) n = n
callee_named env start (Operations first rest) n = n
callee_named env start (Leading operations) n = n

pub callee_judged : (env : Environment) (start : ℕ) (callee : Expr) (answer : Answer (Option Typed)) → IsExpr callee → NoNames (callee_nodes env start callee (expr_nodes env start callee)) → Verdict env start callee answer
    → PartVerdict (callee_nodes env start callee (expr_nodes env start callee)) (callee_inside callee answer)
callee_judged env start (Name ident) answer g n v = silent_one _ (used_only env ident start (suc start) (used_alone env ident start n))
callee_judged env start (Number literal) answer g n v = looked_part env start (Number literal) answer g v
callee_judged env start (Character code at) answer g n v = looked_part env start (Character code at) answer g v
callee_judged env start (Truth b at) answer g n v = looked_part env start (Truth b at) answer g v
callee_judged env start (Parentheses at inner) answer g n v = looked_part env start (Parentheses at inner) answer g v
callee_judged env start (Call callee arguments) answer g n v = looked_part env start (Call callee arguments) answer g v
callee_judged env start (Unary operator at operand) answer g n v = looked_part env start (Unary operator at operand) answer g v
callee_judged env start (Cast operand all) answer g n v = looked_part env start (Cast operand all) answer g v
callee_judged env start (Operations first rest) answer g n v = looked_part env start (Operations first rest) answer g v
callee_judged env start (Leading operations) answer g n v = looked_part env start (Leading operations) answer g v

abbrev call_at : Environment → ℕ → Expr → Arguments → Occurrence
call_at env start callee arguments = occurrence env (nodes.Call false callee (count arguments)) start (start + width (Call callee arguments))

call_found : (env : Environment) (start : ℕ) (callee : Expr) (arguments : Arguments) → IsExpr callee
    → Found (call_at env start callee arguments ∷ []) start (start + width (Call callee arguments)) (breach (call_rule (called_signature env callee) (count arguments)) (or_start (beginning_of callee)) true)
call_found env start callee arguments g = by_cases (takes (called_signature env callee) (count arguments)) refl where
  by_cases : (b : Bool) → takes (called_signature env callee) (count arguments) ≡ b
      → Found (call_at env start callee arguments ∷ []) start (start + width (Call callee arguments)) (breach (call_rule (called_signature env callee) (count arguments)) (or_start (beginning_of callee)) true)
  by_cases true p =
      rw p (found_one start (start + width (Call callee arguments)) (call_at env start callee arguments) own.Calls (or_start (beginning_of callee)) true refl
      (inner_call env callee (count arguments) start (start + width (Call callee arguments)) p) (begins_there callee g) (refl, refl))
  by_cases false p =
      rw p (found_one start (start + width (Call callee arguments)) (call_at env start callee arguments) own.ArgumentCount (or_start (beginning_of callee)) true (rw p refl)
      (counted_call env callee (count arguments) start (start + width (Call callee arguments))) (begins_there callee g) (refl, refl))

pub call_judged : (env : Environment) (start : ℕ) (callee : Expr) (arguments : Arguments) (one others : Answer (Unit {0})) → IsExpr callee → AreArguments arguments
    → PartVerdict (callee_nodes env start callee (expr_nodes env start callee)) one → PartVerdict (argument_nodes env (start + width callee + 1) (places_of (called_signature env callee)) arguments) others
    → Verdict env start (Call callee arguments)
    (and_then one (λ (done : Unit {0}). and_then others (λ (done : Unit {0}). Err (breach (call_rule (called_signature env callee) (count arguments)) (or_start (beginning_of callee)) true))))
call_judged env start callee arguments (Ok one) (Ok two) g a v w =
    let xs = callee_nodes env start callee (expr_nodes env start callee) in
    let ys = argument_nodes env (start + width callee + 1) (places_of (called_signature env callee)) arguments in
    (found_later start (start + width (Call callee arguments)) (xs ++ ys) (call_at env start callee arguments ∷ []) _ (silent_both xs ys v w) (call_found env start callee arguments g), λ q. refl)
call_judged env start callee arguments (Ok one) (Err broken) g a v (p, (low, high, found)) =
    let at = start + width callee + 1 in
    let after = at + length (spell_arguments arguments) in
    let xs = callee_nodes env start callee (expr_nodes env start callee) in
    let ys = argument_nodes env at (places_of (called_signature env callee)) arguments in
    let last = call_at env start callee arguments ∷ [] in
    let segment = argument_order env at (places_of (called_signature env callee)) arguments a in
    let size = width_call callee arguments in
    let inner = found_between start (start + width (Call callee arguments)) at at after low high xs ys last broken v found segment (beyond_one at after (call_at env start callee arguments) (inl (omega (arith, size))))
    (omega arith) (omega (arith, size)) (inl (omega arith)) in
    (inner_broken _ start (start + width (Call callee arguments)) broken p (subst (λ (all : List Occurrence). Found all start (start + width (Call callee arguments)) (breach broken.rule broken.pos false)) (sym (append_assoc xs ys last)) inner), λ q. refl)
call_judged env start callee arguments (Err broken) others g a (p, (low, high, found)) w =
    let at = start + width callee + 1 in
    let after = at + length (spell_arguments arguments) in
    let xs = callee_nodes env start callee (expr_nodes env start callee) in
    let ys = argument_nodes env at (places_of (called_signature env callee)) arguments in
    let last = call_at env start callee arguments ∷ [] in
    let segment = callee_order env start callee (expr_nodes env start callee) (expr_order env start callee g) in
    let size = width_call callee arguments in
    let beyond = beyond_both start (start + width callee) ys last
    (beyond_segment start (start + width callee) at at after ys (argument_order env at (places_of (called_signature env callee)) arguments a) (omega arith))
    (beyond_one start (start + width callee) (call_at env start callee arguments) (inl (omega (arith, size)))) in
    let inner = found_between start (start + width (Call callee arguments)) start start (start + width callee) low high [] xs (ys ++ last) broken silent_none found segment beyond (omega arith) (omega (arith, size)) (inr (omega (arith, size))) in
    (inner_broken _ start (start + width (Call callee arguments)) broken p (subst (λ (all : List Occurrence). Found all start (start + width (Call callee arguments)) (breach broken.rule broken.pos false)) (sym (append_assoc xs ys last)) inner), λ q. refl)
