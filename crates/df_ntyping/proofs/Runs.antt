-- Runs that hold to the left: what the walk knows of both sides of a sign is what the definitions look at.
use Rattle.std.proofs.Common.{◌≡◌, Bool, true, false, ◌||◌, ◌∷◌, Option, Some, None, refl, sym, ap, ◌∙◌, subst}
use Rattle.std.proofs.lemmas.Bool.{and_parts}
use Rattle.df_base.specs.declared.pos.Pos.{Pos}
use Rattle.df_lang.specs.declared.ty.Ty.{Ty}
use Rattle.df_lang.specs.declared.ty.Ty.TheVariants as types
use Rattle.df_lang.specs.Newtype.{same_type}
use Rattle.df_ntree.specs.declared.expr.BinaryOperator.{BinaryOperator}
use Rattle.df_ntree.specs.declared.expr.Group.{Group}
use Rattle.df_ntree.specs.declared.expr.Group.TheVariants as groups
use Rattle.df_ntree.specs.Expr.{Expr, Number, Parentheses, Members, more}
use Rattle.df_ntree.specs.ExprSpelling.{IsExpr}
use Rattle.df_ntyping.specs.Types.{counted, is_integer, are_one_integer, literal_type}
use Rattle.df_ntyping.specs.Environment.{Environment}
use Rattle.df_ntyping.specs.ExprTypes.{is_open, open_type, own_types, type_in, counted_of, first_or, wanted_behind}
use Rattle.df_ntyping.specs.ExprNodes.{left_of_next}
use Rattle.df_ntyping.specs.rules.Truths.{is_truth}
use Rattle.df_ntyping.specs.rules.Comparisons.{are_ordered}
use Rattle.df_ntyping.proofs.Types.{one_type, counted_twice, counted_integer}
use Rattle.df_ntyping.specs.Rule.{TypingRule as Own}
use Rattle.df_ntyping.specs.Rule as own
use Rattle.df_ntyping.specs.mirror.Parts.{Typed, type_of_operand}
use Rattle.df_ntyping.specs.mirror.Signs.{beside, takes_by, or_side, left_behind, type_of_run}
use Rattle.df_ntyping.proofs.MeetingTypes.{literal_integer, literal_of_counted, literal_of_integer, truth_equal, integer_no_truth, one_integer_parts, takes_same, beside_literal, literals_taken}
use Rattle.df_ntyping.proofs.OpenExprs.{any_expected}
use Rattle.df_ntyping.proofs.Fitting.{FitBy, rule_in, is_logical_group, logical_rule_in}
use Rattle.df_ntyping.proofs.Verdict.{Looked, own_of}

-- ---- what the walk knows

-- The definitions have a type on the left, and one that is expected; the walk has the first of them unless all so far
-- is made of literals.
abbrev pub Knows : Environment → Option Ty → Ty → Option Ty → Members → Type 0
Knows env wanted left None rest = (left ≡ literal_type wanted) × (counted_of wanted ≡ wanted) × (wanted ≡ first_or None (own_types env rest))
Knows env wanted left (Some known) rest = (left ≡ known) × (counted_of wanted ≡ wanted) × (literal_type wanted ≡ literal_type (Some (counted known)))

pub counted_wanted : (wanted : Option Ty) → counted_of wanted ≡ wanted → counted (literal_type wanted) ≡ literal_type wanted
counted_wanted wanted p = sym (literal_of_counted wanted) ∙ ap literal_type p

pub open_wanted : (wanted : Option Ty) (e : Expr) → counted_of wanted ≡ wanted → open_type wanted e ≡ literal_type wanted
open_wanted wanted (Number literal) p = refl
open_wanted wanted (Parentheses at inner) p = open_wanted wanted inner p
open_wanted wanted e p = counted_wanted wanted p

-- the type of an operand where the walk has looked at it
abbrev pub right_type : Option Ty → Option Typed → Ty
right_type wanted None = literal_type wanted
right_type wanted (Some t) = t.ty

pub right_known : (env : Environment) (wanted : Option Ty) (e : Expr) (o : Option Typed) → counted_of wanted ≡ wanted → IsExpr e → Looked env e o → type_in env wanted e ≡ Some (right_type wanted o)
right_known env wanted e None p g v = rw v (ap Some (open_wanted wanted e p))
right_known env wanted e (Some t) p g v = one_type env wanted e t.ty t.expr g (any_expected env None wanted e t.ty t.expr v.0 v.1)

pub closed_first : (env : Environment) (operator : BinaryOperator) (at : Pos) (e : Expr) (rest : Members) (t : Typed) → IsExpr e → Looked env e (Some t) → own_types env (more operator at e rest) ≡ Some t.ty ∷ own_types env rest
closed_first env operator at e rest t g v = rw (v.0, own_of env e t g v) refl

pub open_first : (env : Environment) (operator : BinaryOperator) (at : Pos) (e : Expr) (rest : Members) → is_open e ≡ true → own_types env (more operator at e rest) ≡ own_types env rest
open_first env operator at e rest p = rw p refl

-- what the walk asks of a sign is what the definitions do
pub sides_same : (env : Environment) (wanted : Option Ty) (left : Ty) (known : Option Ty) (operator : BinaryOperator) (at : Pos) (e : Expr) (rest : Members) (o : Option Typed) (rule : Own) → IsExpr e → Looked env e o → Knows env wanted left known (more operator at e rest)
    → takes_by rule (beside known (type_of_operand o)) (beside (type_of_operand o) known) ≡ takes_by rule left (right_type wanted o)
sides_same env wanted left None operator at e rest None rule g v (p, q, r) =
    rw p (sym (literals_taken rule (literal_type wanted) (literal_integer wanted) (counted_wanted wanted q)))
sides_same env wanted left None operator at e rest (Some t) rule g v (p, q, r) =
    let same : wanted ≡ Some (counted t.ty) = r ∙ ap (first_or None) (closed_first env operator at e rest t g v) in
    rw p (ap (λ (w : Option Ty). takes_by rule (literal_type w) t.ty) (sym same))
sides_same env wanted left (Some known) operator at e rest None rule g v (p, q, r) = rw p (ap (λ (ty : Ty). takes_by rule known ty) (sym r))
sides_same env wanted left (Some known) operator at e rest (Some t) rule g v (p, q, r) = rw p refl

-- ---- the next sign

-- a sign that was taken asks this of the type that both sides count as
pub taken_fits : (rule : Own) (left right : Ty) → takes_by rule left right ≡ true → FitBy rule (counted left)
taken_fits own.Arithmetic left right h = counted_integer left ∙ (one_integer_parts left right h).0
taken_fits own.Order left right h = ordered left right h where
  ordered : (left right : Ty) → are_ordered left right ≡ true → (is_integer (counted left) || same_type (counted left) types.Char) ≡ true
  ordered types.Char right h = refl
  ordered (types.Newtype a) right h = refl
  ordered types.Int right h = refl
  ordered types.Nat right h = refl
  ordered types.Bool right h = let wrong : false ≡ true = (one_integer_parts types.Bool right h).0 in absurd cc
taken_fits own.Equality left right h = tt
taken_fits rule left right h = ap counted (truth_equal left (and_parts (is_truth left) (is_truth right) h).0)

-- what stands on the left of the next sign, and what all operands count as
abbrev pub Next : Environment → Group → Option Ty → Ty → Option Ty → Expr → Option Typed → Members → Type 0
Next env g wanted left known e o rest =
    (next : Ty) × (left_of_next (Some g) (Some left) (Some (right_type wanted o)) ≡ Some next) × (counted left ≡ counted next)
    × Knows env (wanted_behind env wanted e) next (left_behind (Some g) known (type_of_operand o)) rest
    × ((others : Option Ty) → type_of_run (or_side (left_behind (Some g) known (type_of_operand o)) others) ≡ type_of_run (or_side known (or_side (type_of_operand o) others)))

pub open_behind : (env : Environment) (wanted : Option Ty) (e : Expr) → is_open e ≡ true → wanted_behind env wanted e ≡ wanted
open_behind env wanted e p = rw p refl

pub closed_behind : (env : Environment) (wanted : Option Ty) (e : Expr) (t : Typed) → IsExpr e → Looked env e (Some t) → wanted_behind env wanted e ≡ Some (counted t.ty)
closed_behind env wanted e t g v = rw (v.0, own_of env e t g v) refl

at_wanted : (env : Environment) (one other : Option Ty) (left : Ty) (known : Option Ty) (rest : Members) → one ≡ other → Knows env other left known rest → Knows env one left known rest
at_wanted env one other left known rest p h = subst (λ (w : Option Ty). Knows env w left known rest) (sym p) h

pub twice_some : (ty : Ty) → counted_of (Some (counted ty)) ≡ Some (counted ty)
twice_some ty = ap Some (counted_twice ty)

literal_twice : (ty : Ty) → literal_type (Some (counted ty)) ≡ literal_type (Some (counted (counted ty)))
literal_twice ty = ap (λ (x : Ty). literal_type (Some x)) (sym (counted_twice ty))

-- sums and products

abbrev pub is_sum : Group → Bool
is_sum groups.Sum = true
is_sum groups.Product = true
is_sum g = false

sum_left : (g : Group) (left right : Ty) → is_sum g ≡ true → are_one_integer left right ≡ true → left_of_next (Some g) (Some left) (Some right) ≡ Some (counted left)
sum_left groups.Sum left right p h = rw h refl
sum_left groups.Product left right p h = rw h refl
sum_left g left right p h = absurd cc

pub sum_behind : (g : Group) (known right : Option Ty) → is_sum g ≡ true → left_behind (Some g) known right ≡ counted_of (or_side known right)
sum_behind groups.Sum known right p = refl
sum_behind groups.Product known right p = refl
sum_behind g known right p = absurd cc

sum_known : (env : Environment) (wanted : Option Ty) (left : Ty) (known : Option Ty) (operator : BinaryOperator) (at : Pos) (e : Expr) (rest : Members) (o : Option Typed) → IsExpr e → Looked env e o → Knows env wanted left known (more operator at e rest)
    → counted left ≡ counted (right_type wanted o) → Knows env (wanted_behind env wanted e) (counted left) (counted_of (or_side known (type_of_operand o))) rest
sum_known env wanted left None operator at e rest None g v (p, q, r) same =
    at_wanted env (wanted_behind env wanted e) wanted (counted left) None rest (open_behind env wanted e v) (ap counted p ∙ counted_wanted wanted q, q, r ∙ ap (first_or None) (open_first env operator at e rest v))
sum_known env wanted left None operator at e rest (Some t) g v (p, q, r) same =
    at_wanted env (wanted_behind env wanted e) (Some (counted t.ty)) (counted left) (Some (counted t.ty)) rest (closed_behind env wanted e t g v) (same, twice_some t.ty, literal_twice t.ty)
sum_known env wanted left (Some known) operator at e rest None g v (p, q, r) same =
    at_wanted env (wanted_behind env wanted e) wanted (counted left) (Some (counted known)) rest (open_behind env wanted e v) (ap counted p, q, r ∙ literal_twice known)
sum_known env wanted left (Some known) operator at e rest (Some t) g v (p, q, r) same =
    at_wanted env (wanted_behind env wanted e) (Some (counted t.ty)) (counted left) (Some (counted known)) rest (closed_behind env wanted e t g v)
    (ap counted p, twice_some t.ty, ap (λ (x : Ty). literal_type (Some x)) (sym same ∙ ap counted p) ∙ literal_twice known)

sum_run : (known right others : Option Ty) → type_of_run (or_side (counted_of (or_side known right)) others) ≡ type_of_run (or_side known (or_side right others))
sum_run None None others = refl
sum_run None (Some ty) others = counted_twice ty
sum_run (Some ty) right others = counted_twice ty

sum_next : (env : Environment) (g : Group) (wanted : Option Ty) (left : Ty) (known : Option Ty) (operator : BinaryOperator) (at : Pos) (e : Expr) (rest : Members) (o : Option Typed) → is_sum g ≡ true → IsExpr e → Looked env e o
    → Knows env wanted left known (more operator at e rest) → are_one_integer left (right_type wanted o) ≡ true → Next env g wanted left known e o rest
sum_next env g wanted left known operator at e rest o s x v k h =
    let behind = sum_behind g known (type_of_operand o) s in
    let same = (one_integer_parts left (right_type wanted o) h).2 in (
      counted left,
      sum_left g left (right_type wanted o) s h,
      sym (counted_twice left),
      subst (λ (l : Option Ty). Knows env (wanted_behind env wanted e) (counted left) l rest) (sym behind) (sum_known env wanted left known operator at e rest o x v k same),
      λ others. subst (λ (l : Option Ty). type_of_run (or_side l others) ≡ type_of_run (or_side known (or_side (type_of_operand o) others))) (sym behind) (sum_run known (type_of_operand o) others),
    )

-- chains

chain_known : (env : Environment) (wanted : Option Ty) (left : Ty) (known : Option Ty) (operator : BinaryOperator) (at : Pos) (e : Expr) (rest : Members) (o : Option Typed) (rule : Own) → IsExpr e → Looked env e o → Knows env wanted left known (more operator at e rest)
    → takes_by rule left (right_type wanted o) ≡ true → Knows env (wanted_behind env wanted e) (right_type wanted o) (or_side (type_of_operand o) (counted_of known)) rest
chain_known env wanted left None operator at e rest None rule g v (p, q, r) h =
    at_wanted env (wanted_behind env wanted e) wanted (literal_type wanted) None rest (open_behind env wanted e v) (refl, q, r ∙ ap (first_or None) (open_first env operator at e rest v))
chain_known env wanted left None operator at e rest (Some t) rule g v (p, q, r) h =
    at_wanted env (wanted_behind env wanted e) (Some (counted t.ty)) t.ty (Some t.ty) rest (closed_behind env wanted e t g v) (refl, twice_some t.ty, refl)
chain_known env wanted left (Some known) operator at e rest None rule g v (p, q, r) h =
    let integer : is_integer known ≡ true = beside_literal rule known wanted (subst (λ (ty : Ty). takes_by rule ty (literal_type wanted) ≡ true) p h) in
    at_wanted env (wanted_behind env wanted e) wanted (literal_type wanted) (Some (counted known)) rest (open_behind env wanted e v)
    (r ∙ literal_of_integer (counted known) (counted_integer known ∙ integer), q, r ∙ literal_twice known)
chain_known env wanted left (Some known) operator at e rest (Some t) rule g v (p, q, r) h =
    at_wanted env (wanted_behind env wanted e) (Some (counted t.ty)) t.ty (Some t.ty) rest (closed_behind env wanted e t g v) (refl, twice_some t.ty, refl)

chain_run : (env : Environment) (wanted : Option Ty) (left : Ty) (known : Option Ty) (operator : BinaryOperator) (at : Pos) (e : Expr) (rest : Members) (o : Option Typed) (others : Option Ty) → Knows env wanted left known (more operator at e rest)
    → counted left ≡ counted (right_type wanted o) → type_of_run (or_side (or_side (type_of_operand o) (counted_of known)) others) ≡ type_of_run (or_side known (or_side (type_of_operand o) others))
chain_run env wanted left None operator at e rest None others k same = refl
chain_run env wanted left None operator at e rest (Some t) others k same = refl
chain_run env wanted left (Some known) operator at e rest None others k same = counted_twice known
chain_run env wanted left (Some known) operator at e rest (Some t) others (p, q, r) same = sym same ∙ ap counted p

-- logical runs

logical_left : (g : Group) (left right : Ty) → is_logical_group g ≡ true → left_of_next (Some g) (Some left) (Some right) ≡ Some types.Bool
logical_left groups.Sum left right p = absurd cc
logical_left groups.Product left right p = absurd cc
logical_left groups.Comparison left right p = absurd cc
logical_left groups.Conjunction left right p = refl
logical_left groups.Disjunction left right p = refl
logical_left groups.Implication left right p = refl
logical_left groups.Explication left right p = refl
logical_left groups.Equivalence left right p = refl

logical_behind : (g : Group) (known right : Option Ty) → is_logical_group g ≡ true → left_behind (Some g) known right ≡ Some types.Bool
logical_behind groups.Sum known right p = absurd cc
logical_behind groups.Product known right p = absurd cc
logical_behind groups.Comparison known right p = absurd cc
logical_behind groups.Conjunction known right p = refl
logical_behind groups.Disjunction known right p = refl
logical_behind groups.Implication known right p = refl
logical_behind groups.Explication known right p = refl
logical_behind groups.Equivalence known right p = refl

no_truth : (expected : Option Ty) → is_truth (literal_type expected) ≡ true → ⊥
no_truth expected p = let wrong : true ≡ false = sym p ∙ integer_no_truth (literal_type expected) (literal_integer expected) in cc

logical_next : (env : Environment) (g : Group) (wanted : Option Ty) (left : Ty) (known : Option Ty) (operator : BinaryOperator) (at : Pos) (e : Expr) (rest : Members) (o : Option Typed) → is_logical_group g ≡ true → IsExpr e → Looked env e o
    → Knows env wanted left known (more operator at e rest) → is_truth left ≡ true → is_truth (right_type wanted o) ≡ true → Next env g wanted left known e o rest
logical_next env g wanted left None operator at e rest o s x v (p, q, r) a b = absurd (no_truth wanted (subst (λ (ty : Ty). is_truth ty ≡ true) p a))
logical_next env g wanted left (Some known) operator at e rest None s x v k a b = absurd (no_truth wanted b)
logical_next env g wanted left (Some known) operator at e rest (Some t) s x v (p, q, r) a b =
    let right : t.ty ≡ types.Bool = truth_equal t.ty b in
    let both : left ≡ types.Bool = truth_equal left a in
    let behind = logical_behind g (Some known) (Some t.ty) s in (
      types.Bool,
      logical_left g left t.ty s,
      ap counted both,
      subst (λ (l : Option Ty). Knows env (wanted_behind env wanted e) types.Bool l rest) (sym behind)
          (at_wanted env (wanted_behind env wanted e) (Some (counted t.ty)) types.Bool (Some types.Bool) rest (closed_behind env wanted e t x v) (refl, twice_some t.ty, ap (λ (ty : Ty). literal_type (Some (counted ty))) right)),
      λ others. subst (λ (l : Option Ty). type_of_run (or_side l others) ≡ counted known) (sym behind) (sym (ap counted (sym p ∙ both))),
    )

-- each group

pub sum_rule : (g : Group) (rule : Own) → is_sum g ≡ true → rule_in g rule ≡ true → rule ≡ own.Arithmetic
sum_rule groups.Sum own.Arithmetic p q = refl
sum_rule groups.Product own.Arithmetic p q = refl
sum_rule g rule p q = absurd cc

logical : (env : Environment) (g : Group) (wanted : Option Ty) (left : Ty) (known : Option Ty) (operator : BinaryOperator) (at : Pos) (e : Expr) (rest : Members) (o : Option Typed) (rule : Own) → is_logical_group g ≡ true → rule_in g rule ≡ true → IsExpr e → Looked env e o
    → Knows env wanted left known (more operator at e rest) → takes_by rule left (right_type wanted o) ≡ true → Next env g wanted left known e o rest
logical env g wanted left known operator at e rest o rule s i x v k h =
    let both = and_parts (is_truth left) (is_truth (right_type wanted o)) (subst (λ (r : Own). takes_by r left (right_type wanted o) ≡ true) (logical_rule_in g rule s i) h) in
    logical_next env g wanted left known operator at e rest o s x v k both.0 both.1

pub next_known : (env : Environment) (g : Group) (wanted : Option Ty) (left : Ty) (known : Option Ty) (operator : BinaryOperator) (at : Pos) (e : Expr) (rest : Members) (o : Option Typed) (rule : Own) → rule_in g rule ≡ true → IsExpr e → Looked env e o
    → Knows env wanted left known (more operator at e rest) → takes_by rule left (right_type wanted o) ≡ true → Next env g wanted left known e o rest
next_known env groups.Sum wanted left known operator at e rest o rule i x v k h =
    sum_next env groups.Sum wanted left known operator at e rest o refl x v k (subst (λ (r : Own). takes_by r left (right_type wanted o) ≡ true) (sum_rule groups.Sum rule refl i) h)
next_known env groups.Product wanted left known operator at e rest o rule i x v k h =
    sum_next env groups.Product wanted left known operator at e rest o refl x v k (subst (λ (r : Own). takes_by r left (right_type wanted o) ≡ true) (sum_rule groups.Product rule refl i) h)
next_known env groups.Comparison wanted left known operator at e rest o rule i x v k h =
    let same = takes_same rule left (right_type wanted o) h in
    (right_type wanted o, refl, same, chain_known env wanted left known operator at e rest o rule x v k h, λ others. chain_run env wanted left known operator at e rest o others k same)
next_known env groups.Conjunction wanted left known operator at e rest o rule i x v k h = logical env groups.Conjunction wanted left known operator at e rest o rule refl i x v k h
next_known env groups.Disjunction wanted left known operator at e rest o rule i x v k h = logical env groups.Disjunction wanted left known operator at e rest o rule refl i x v k h
next_known env groups.Implication wanted left known operator at e rest o rule i x v k h = logical env groups.Implication wanted left known operator at e rest o rule refl i x v k h
next_known env groups.Explication wanted left known operator at e rest o rule i x v k h = logical env groups.Explication wanted left known operator at e rest o rule refl i x v k h
next_known env groups.Equivalence wanted left known operator at e rest o rule i x v k h = logical env groups.Equivalence wanted left known operator at e rest o rule refl i x v k h
