-- Operands of a run that count as one type are taken by its signs.
use Rattle.std.proofs.Common.{◌≡◌, ℕ, Bool, true, false, ◌&&◌, ◌||◌, List, Some, refl, sym, ap, ◌∙◌, subst}
use Rattle.std.proofs.lemmas.Bool.{and_parts}
use Rattle.df_lang.specs.declared.ty.Ty.{Ty}
use Rattle.df_lang.specs.declared.ty.Ty.TheVariants as types
use Rattle.df_lang.specs.Newtype.{same_type}
use Rattle.df_lang.specs.Expr as typed
use Rattle.df_ntree.specs.declared.expr.BinaryOperator.{BinaryOperator}
use Rattle.df_ntree.specs.declared.expr.BinaryOperator.TheVariants as binary
use Rattle.df_ntree.specs.declared.expr.Group.{Group}
use Rattle.df_ntree.specs.declared.expr.Group.TheVariants as groups
use Rattle.df_ntree.specs.Operator.{group_of}
use Rattle.df_ntree.specs.Expr.{Members, end, more}
use Rattle.df_ntree.specs.ExprSpelling.{AreOf}
use Rattle.df_ntyping.specs.Types.{counted, is_integer, are_one_integer, all_of}
use Rattle.df_ntyping.specs.ExprNodes.{left_of_next}
use Rattle.df_ntyping.specs.ExprElaboration.{Part, compares, IsRun}
use Rattle.df_ntyping.specs.rules.Comparisons.{are_ordered, one_fits}
use Rattle.df_ntyping.specs.rules.Truths.{is_truth}
use Rattle.df_ntyping.proofs.Complete.{same_self}
use Rattle.df_ntyping.proofs.WellTyped.{same_equal}
use Rattle.df_ntyping.proofs.Types.{counted_twice, counted_integer, one_integer}
use Rattle.df_ntyping.specs.Rule as own
use Rattle.df_ntyping.specs.Rule.{TypingRule as Own}
use Rattle.df_ntyping.specs.mirror.Signs.{rule_of, takes_by}

-- the rule asks this of the type that operands count as
abbrev pub FitBy : Own → Ty → Type 0
FitBy own.Arithmetic of = is_integer of ≡ true
FitBy own.Order of = (is_integer of || same_type of types.Char) ≡ true
FitBy own.Equality of = Unit {0}
FitBy rule of = of ≡ types.Bool

abbrev pub AllFit : Ty → Members → Type 0
AllFit of end = Unit {0}
AllFit of (more operator pos operand rest) = FitBy (rule_of operator) of × AllFit of rest

-- ---- from what a run asks

abbrev pub GroupFit : Group → Ty → BinaryOperator → Type 0
GroupFit groups.Sum of operator = is_integer of ≡ true
GroupFit groups.Product of operator = is_integer of ≡ true
GroupFit groups.Comparison of operator = compares of operator ≡ true
GroupFit group of operator = of ≡ types.Bool

fit_one : (operator : BinaryOperator) (of : Ty) → GroupFit (group_of operator) of operator → FitBy (rule_of operator) of
fit_one binary.Iff of h = h
fit_one binary.Implies of h = h
fit_one binary.Explies of h = h
fit_one binary.And of h = h
fit_one binary.Or of h = h
fit_one binary.Equal of h = tt
fit_one binary.NotEqual of h = tt
fit_one binary.Less of h = h
fit_one binary.AtMost of h = h
fit_one binary.Greater of h = h
fit_one binary.AtLeast of h = h
fit_one binary.Add of h = h
fit_one binary.Subtract of h = h
fit_one binary.Multiply of h = h
fit_one binary.Divide of h = h
fit_one binary.Modulo of h = h

pub fit_in : (g : Group) (operator : BinaryOperator) (of : Ty) → group_of operator ≡ g → GroupFit g of operator → FitBy (rule_of operator) of
fit_in g operator of p h = fit_one operator of (subst (λ (x : Group). GroupFit x of operator) (sym p) h)

pub all_fit : (g : Group) (of : Ty) (rest : Members) → ((operator : BinaryOperator) → GroupFit g of operator) → AreOf rest g → AllFit of rest
all_fit g of end h all = tt
all_fit g of (more operator pos operand rest) h all = (fit_in g operator of all.0 (h operator), all_fit g of rest h all.3)

pub chain_fit : (of : Ty) (rest : Members) → all_of (compares of) rest ≡ true → AreOf rest groups.Comparison → AllFit of rest
chain_fit of end h all = tt
chain_fit of (more operator pos operand rest) h all =
    let both = and_parts (compares of operator) (all_of (compares of) rest) h in
    (fit_in groups.Comparison operator of all.0 both.0, chain_fit of rest both.1 all.3)

-- what a run of the group asks of its signs
pub run_fit : (g : Group) (rest : Members) (of : Ty) (first : typed.Expr) (parts : List Part) (ty : Ty) (t : typed.Expr) → AreOf rest g → IsRun (Some g) rest of first parts ty t → AllFit of rest
run_fit groups.Sum rest of first parts ty t all h = all_fit groups.Sum of rest (λ operator. h.0) all
run_fit groups.Product rest of first parts ty t all h = all_fit groups.Product of rest (λ operator. h.0) all
run_fit groups.Comparison rest of first parts ty t all h = chain_fit of rest h.0 all
run_fit groups.Conjunction rest of first parts ty t all h = all_fit groups.Conjunction of rest (λ operator. h.0) all
run_fit groups.Disjunction rest of first parts ty t all h = all_fit groups.Disjunction of rest (λ operator. h.0) all
run_fit groups.Implication rest of first parts ty t all h = all_fit groups.Implication of rest (λ operator. h.0) all
run_fit groups.Explication rest of first parts ty t all h = all_fit groups.Explication of rest (λ operator. h.0) all
run_fit groups.Equivalence rest of first parts ty t all h = all_fit groups.Equivalence of rest (λ operator. h.0) all

-- ---- one sign

counted_char : (ty : Ty) → counted ty ≡ types.Char → ty ≡ types.Char
counted_char (types.Newtype a) p = absurd cc
counted_char types.Int p = absurd cc
counted_char types.Nat p = absurd cc
counted_char types.Bool p = absurd cc
counted_char types.Char p = refl

pub counted_bool : (ty : Ty) → counted ty ≡ types.Bool → ty ≡ types.Bool
counted_bool (types.Newtype a) p = absurd cc
counted_bool types.Int p = absurd cc
counted_bool types.Nat p = absurd cc
counted_bool types.Bool p = refl
counted_bool types.Char p = absurd cc

integer_ordered : (left right : Ty) → is_integer left ≡ true → are_one_integer left right ≡ true → are_ordered left right ≡ true
integer_ordered (types.Newtype a) right p q = q
integer_ordered types.Int right p q = q
integer_ordered types.Nat right p q = q
integer_ordered types.Bool right p q = q
integer_ordered types.Char right p q = absurd cc

counts_integer : (ty of : Ty) → counted ty ≡ of → is_integer of ≡ true → is_integer ty ≡ true
counts_integer ty of p q = sym (counted_integer ty) ∙ ap is_integer p ∙ q

order_fits : (of left right : Ty) (b : Bool) → is_integer of ≡ b → (b || same_type of types.Char) ≡ true → counted left ≡ of → counted right ≡ of → are_ordered left right ≡ true
order_fits of left right true h k p q =
    integer_ordered left right (counts_integer left of p h) (one_integer left right (counts_integer left of p h) (counts_integer right of q h) (p ∙ sym q))
order_fits of left right false h k p q =
    let char : of ≡ types.Char = same_equal of types.Char k in
    rw (counted_char left (p ∙ char), counted_char right (q ∙ char)) refl

newtypes_fit : (a b : ℕ) → types.Newtype a ≡ types.Newtype b → one_fits (types.Newtype a) (types.Newtype b) ≡ true
newtypes_fit a b p = subst (λ (ty : Ty). one_fits (types.Newtype a) ty ≡ true) p (rw (same_self (types.Newtype a)) refl)

equality_fits : (left right : Ty) → counted left ≡ counted right → one_fits left right ≡ true
equality_fits (types.Newtype a) (types.Newtype b) p = newtypes_fit a b p
equality_fits (types.Newtype a) types.Int p = absurd cc
equality_fits (types.Newtype a) types.Nat p = absurd cc
equality_fits (types.Newtype a) types.Bool p = absurd cc
equality_fits (types.Newtype a) types.Char p = absurd cc
equality_fits types.Int (types.Newtype b) p = absurd cc
equality_fits types.Int types.Int p = refl
equality_fits types.Int types.Nat p = refl
equality_fits types.Int types.Bool p = absurd cc
equality_fits types.Int types.Char p = absurd cc
equality_fits types.Nat (types.Newtype b) p = absurd cc
equality_fits types.Nat types.Int p = refl
equality_fits types.Nat types.Nat p = refl
equality_fits types.Nat types.Bool p = absurd cc
equality_fits types.Nat types.Char p = absurd cc
equality_fits types.Bool (types.Newtype b) p = absurd cc
equality_fits types.Bool types.Int p = absurd cc
equality_fits types.Bool types.Nat p = absurd cc
equality_fits types.Bool types.Bool p = refl
equality_fits types.Bool types.Char p = absurd cc
equality_fits types.Char (types.Newtype b) p = absurd cc
equality_fits types.Char types.Int p = absurd cc
equality_fits types.Char types.Nat p = absurd cc
equality_fits types.Char types.Bool p = absurd cc
equality_fits types.Char types.Char p = refl

truths_fit : (of left right : Ty) → of ≡ types.Bool → counted left ≡ of → counted right ≡ of → (is_truth left && is_truth right) ≡ true
truths_fit of left right h p q = rw (counted_bool left (p ∙ h), counted_bool right (q ∙ h)) refl

pub takes_fit : (rule : Own) (of left right : Ty) → FitBy rule of → counted left ≡ of → counted right ≡ of → takes_by rule left right ≡ true
takes_fit own.Arithmetic of left right h p q = one_integer left right (counts_integer left of p h) (counts_integer right of q h) (p ∙ sym q)
takes_fit own.Order of left right h p q = order_fits of left right (is_integer of) refl h p q
takes_fit own.Equality of left right h p q = equality_fits left right (p ∙ sym q)
takes_fit rule of left right h p q = truths_fit of left right h p q

-- ---- the rules of a group

abbrev pub rule_in : Group → Own → Bool
rule_in groups.Sum own.Arithmetic = true
rule_in groups.Product own.Arithmetic = true
rule_in groups.Comparison own.Order = true
rule_in groups.Comparison own.Equality = true
rule_in groups.Conjunction own.Truths = true
rule_in groups.Disjunction own.Truths = true
rule_in groups.Implication own.Truths = true
rule_in groups.Explication own.Truths = true
rule_in groups.Equivalence own.Truths = true
rule_in g rule = false

rule_of_group : (operator : BinaryOperator) → rule_in (group_of operator) (rule_of operator) ≡ true
rule_of_group binary.Iff = refl
rule_of_group binary.Implies = refl
rule_of_group binary.Explies = refl
rule_of_group binary.And = refl
rule_of_group binary.Or = refl
rule_of_group binary.Equal = refl
rule_of_group binary.NotEqual = refl
rule_of_group binary.Less = refl
rule_of_group binary.AtMost = refl
rule_of_group binary.Greater = refl
rule_of_group binary.AtLeast = refl
rule_of_group binary.Add = refl
rule_of_group binary.Subtract = refl
rule_of_group binary.Multiply = refl
rule_of_group binary.Divide = refl
rule_of_group binary.Modulo = refl

pub group_rule : (g : Group) (operator : BinaryOperator) → group_of operator ≡ g → rule_in g (rule_of operator) ≡ true
group_rule g operator p = subst (λ (x : Group). rule_in x (rule_of operator) ≡ true) p (rule_of_group operator)

-- in a logical group only truths are asked for
abbrev pub is_logical_group : Group → Bool
is_logical_group groups.Sum = false
is_logical_group groups.Product = false
is_logical_group groups.Comparison = false
is_logical_group g = true

pub logical_rule_in : (g : Group) (rule : Own) → is_logical_group g ≡ true → rule_in g rule ≡ true → rule ≡ own.Truths
logical_rule_in groups.Sum rule p q = absurd cc
logical_rule_in groups.Product rule p q = absurd cc
logical_rule_in groups.Comparison rule p q = absurd cc
logical_rule_in groups.Conjunction own.Truths p q = refl
logical_rule_in groups.Disjunction own.Truths p q = refl
logical_rule_in groups.Implication own.Truths p q = refl
logical_rule_in groups.Explication own.Truths p q = refl
logical_rule_in groups.Equivalence own.Truths p q = refl
logical_rule_in g rule p q = absurd cc

pub arithmetic_rule_in : (rule : Own) → rule_in groups.Sum rule ≡ true → rule ≡ own.Arithmetic
arithmetic_rule_in own.Arithmetic q = refl
arithmetic_rule_in rule q = absurd cc

-- ---- what stands on the left of the next sign

pub next_left : (g : Group) (rule : Own) (of left right : Ty) → rule_in g rule ≡ true → FitBy rule of → counted left ≡ of → counted right ≡ of
    → (next : Ty) × (left_of_next (Some g) (Some left) (Some right) ≡ Some next) × (counted next ≡ of)
next_left groups.Sum own.Arithmetic of left right i h p q =
    (counted left, rw (takes_fit own.Arithmetic of left right h p q) refl, counted_twice left ∙ p)
next_left groups.Product own.Arithmetic of left right i h p q =
    (counted left, rw (takes_fit own.Arithmetic of left right h p q) refl, counted_twice left ∙ p)
next_left groups.Comparison rule of left right i h p q = (right, refl, q)
next_left groups.Conjunction own.Truths of left right i h p q = (types.Bool, refl, sym h)
next_left groups.Disjunction own.Truths of left right i h p q = (types.Bool, refl, sym h)
next_left groups.Implication own.Truths of left right i h p q = (types.Bool, refl, sym h)
next_left groups.Explication own.Truths of left right i h p q = (types.Bool, refl, sym h)
next_left groups.Equivalence own.Truths of left right i h p q = (types.Bool, refl, sym h)
next_left g rule of left right i h p q = absurd cc
