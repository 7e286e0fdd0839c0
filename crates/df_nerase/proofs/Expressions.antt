-- Expressions without ghosts have the same values.
use Rattle.std.proofs.Common.{◌≡◌, ℤ, pos, neg_ℤ, ◌*ℤ◌, int_le, Bool, true, false, not, ◌&&◌, if◌then◌else◌, List, Option, Some, None, refl}
use Rattle.std.specs.Ordering.{int_eq}
use Rattle.std.specs.Int.{int_div_euclid, int_rem_euclid}
use Rattle.std.specs.Option.{option_map_or}
use Rattle.df_base.specs.declared.pos.Pos.{Pos}
use Rattle.df_lang.specs.declared.ty.Ty.{Ty}
use Rattle.df_lang.specs.declared.ty.Ty.TheVariants as types
use Rattle.df_lang.specs.declared.expr.AddendOperator.{AddendOperator}
use Rattle.df_lang.specs.declared.expr.FactorOperator.{FactorOperator}
use Rattle.df_lang.specs.declared.expr.FactorOperator.TheVariants as factors
use Rattle.df_lang.specs.declared.expr.Junction.{Junction as JunctionKind}
use Rattle.df_lang.specs.Newtype.{Newtype, same_type}
use Rattle.df_lang.specs.Expr.{Expr, Number, Truth, Character, Local, Negate, Not, Sum, Product, Junction, Implies, Iff, Chain, As, Convert, Addends, no_addend, addend, Factors, no_factor, factor, Members, no_member, member, Links, no_link, link}
use Rattle.df_lang.specs.Program.{Program, newtype_at}
use Rattle.df_lang.specs.Typing.{is_integer, is_arithmetic, casts, converts, is_expr, are_addends, are_factors, are_members, are_links, compares}
use Rattle.df_meaning.specs.declared.kind.Kind.TheVariants as kinds
use Rattle.df_meaning.specs.Value.{Value, number_of, truth_of, same_truth}
use Rattle.df_meaning.specs.Value as values
use Rattle.df_meaning.specs.Types.{is_in, holds, has_type}
use Rattle.df_meaning.specs.Outcome.{Outcome, Gives, Wrong, after}
use Rattle.df_meaning.specs.State.{State, value_at}
use Rattle.df_meaning.specs.Meaning.{Meaning}
use Rattle.df_meaning.specs.Evaluation.{in_range, as_type, converted, summed, multiplied, compare, decides, value_of_local, evaluate, evaluate_addends, evaluate_factors, evaluate_junction, evaluate_implications, evaluate_equivalences, evaluate_links}
use Rattle.df_meaning.specs.Typed.{AreTyped}
use Rattle.df_meaning.proofs.Cases.{IfGives, choice, both, three, four}
use Rattle.df_meaning.proofs.Types.{arithmetic_is_integer}
use Rattle.df_meaning.proofs.Typing.{Is, evaluate_typed}
use Rattle.df_nplain.specs.Kind.{Between, Unbounded}
use Rattle.df_nplain.specs.Outcome as outcomes
use Rattle.df_nplain.specs.Meaning as plain_meaning
use Rattle.df_nplain.specs.Evaluation as plain
use Rattle.df_nerase.specs.Erasing.{range_of, kind_of, erase_expr, erase_addends, erase_factors, erase_members, erase_links}
use Rattle.df_nerase.specs.Simulation.{Simulates, state_of}
use Rattle.df_nerase.proofs.Outcomes.{as_is, bound_given, kept_by, chosen, guarded, known, looked_at}
use Rattle.df_nerase.proofs.ValueKinds.{number_known, truth_known, kind_known, cast_known, equivalent_known, compared_known}

-- ---- numbers

-- the interval of a newtype
by_newtype : (at : Pos) (z : ℤ) (o : Option Newtype)
    → Simulates as_is (if option_map_or (λ (newtype : Newtype). holds newtype z) o false then Gives (values.Number z) else Wrong at kinds.Range)
    (plain.in_range (option_map_or (λ (newtype : Newtype). Between newtype.low newtype.high) o Unbounded) z)
by_newtype at z None = tt
by_newtype at z (Some newtype) = chosen as_is (int_le newtype.low z && int_le z newtype.high) _ _ _ _ refl tt

ranges : (p : Program) (ty : Ty) (at : Pos) (z : ℤ) → Simulates as_is (in_range p ty at z) (plain.in_range (range_of p ty) z)
ranges p (types.Newtype id) at z = by_newtype at z (newtype_at p id)
ranges p types.Int at z = refl
ranges p types.Nat at z = guarded as_is (int_le (pos 0) z) _ _ _ refl tt
ranges p types.Bool at z = tt
ranges p types.Char at z = guarded as_is (int_le (pos 0) z && int_le z (pos 127)) _ _ _ refl tt

casted : (p : Program) (target : Ty) (at : Pos) (z : ℤ) → Simulates as_is (as_type p target at z) (plain.as_kind (kind_of p target) z)
casted p (types.Newtype id) at z = by_newtype at z (newtype_at p id)
casted p types.Int at z = refl
casted p types.Nat at z = guarded as_is (int_le (pos 0) z) _ _ _ refl tt
casted p types.Bool at z = tt
casted p types.Char at z = chosen as_is (int_le (pos 0) z && int_le z (pos 127)) _ _ _ _ refl tt

products : (p : Program) (operator : FactorOperator) (ty : Ty) (at : Pos) (a b : ℤ) → Simulates as_is (multiplied p operator ty at a b) (plain.product operator (range_of p ty) a b)
products p factors.Times ty at a b = ranges p ty at (a *ℤ b)
products p factors.Divide ty at a b = chosen as_is (int_eq b (pos 0)) _ _ _ _ tt (ranges p ty at (int_div_euclid a b))
products p factors.Modulo ty at a b = chosen as_is (int_eq b (pos 0)) _ _ _ _ tt (ranges p ty at (int_rem_euclid a b))

-- the value is a number
abbrev IsNumber : Value → Type 0
IsNumber v = plain.number_in v ≡ outcomes.Gives (number_of v)

abbrev IsTruth : Value → Type 0
IsTruth v = plain.truth_in v ≡ outcomes.Gives (truth_of v)

range_number : (p : Program) (ty : Ty) (at : Pos) (z : ℤ) → IfGives IsNumber (in_range p ty at z)
range_number p ty at z = choice (IfGives IsNumber) (is_in p ty z) (Gives (values.Number z)) (Wrong at kinds.Range) refl tt

product_number : (p : Program) (operator : FactorOperator) (ty : Ty) (at : Pos) (a b : ℤ) → IfGives IsNumber (multiplied p operator ty at a b)
product_number p factors.Times ty at a b = range_number p ty at (a *ℤ b)
product_number p factors.Divide ty at a b = choice (IfGives IsNumber) (int_eq b (pos 0)) (Wrong at kinds.Divisor) _ tt (range_number p ty at (int_div_euclid a b))
product_number p factors.Modulo ty at a b = choice (IfGives IsNumber) (int_eq b (pos 0)) (Wrong at kinds.Divisor) _ tt (range_number p ty at (int_rem_euclid a b))

sum_alike : (p : Program) (operator : AddendOperator) (ty : Ty) (at : Pos) (v w : Value) → IsNumber v → IsNumber w
    → Simulates as_is (in_range p ty at (summed operator (number_of v) (number_of w))) (plain.added operator (range_of p ty) v w)
sum_alike p operator ty at v w h k =
    known (plain.number_in v) (number_of v) as_is _ _ h (known (plain.number_in w) (number_of w) as_is _ _ k (ranges p ty at (summed operator (number_of v) (number_of w))))

product_alike : (p : Program) (operator : FactorOperator) (ty : Ty) (at : Pos) (v w : Value) → IsNumber v → IsNumber w
    → Simulates as_is (multiplied p operator ty at (number_of v) (number_of w)) (plain.multiplied operator (range_of p ty) v w)
product_alike p operator ty at v w h k =
    known (plain.number_in v) (number_of v) as_is _ _ h (known (plain.number_in w) (number_of w) as_is _ _ k (products p operator ty at (number_of v) (number_of w)))

local_value : (o : Option Value) → Simulates as_is (value_of_local o) (plain.value_of_local o)
local_value None = tt
local_value (Some v) = refl

-- a number at a place of another type stays
narrowed : (p : Program) (at : Pos) (v : Value) → has_type p types.Int v ≡ true → IfGives (λ (w : Value). w ≡ v) (in_range p types.Nat at (number_of v))
narrowed p at (values.Number z) h = choice (IfGives (λ (w : Value). w ≡ values.Number z)) (int_le (pos 0) z) (Gives (values.Number z)) (Wrong at kinds.Range) refl tt
narrowed p at (values.Truth b) h = cc
narrowed p at (values.Character c) h = cc
narrowed p at (values.Text cs) h = cc

pub conversion_stays : (p : Program) (source target : Ty) (at : Pos) (v : Value) → has_type p source v ≡ true → IfGives (λ (w : Value). w ≡ v) (converted p source target at v)
conversion_stays p types.Int types.Nat at v h = narrowed p at v h
conversion_stays p types.Int (types.Newtype id) at v h = refl
conversion_stays p types.Int types.Int at v h = refl
conversion_stays p types.Int types.Bool at v h = refl
conversion_stays p types.Int types.Char at v h = refl
conversion_stays p types.Nat target at v h = refl
conversion_stays p types.Bool target at v h = refl
conversion_stays p types.Char target at v h = refl
conversion_stays p (types.Newtype id) target at v h = refl

-- ---- expressions

module _ (m : Meaning) (n : plain_meaning.Meaning) (locals : List Ty) (s : State) (typed : AreTyped m.program locals s) where
  mutual
    pub value_alike : (e : Expr) (ty : Ty) → is_expr m.program locals ty e ≡ true → Simulates as_is (evaluate m s e) (plain.evaluate n (state_of s) (erase_expr m.program e))
    value_alike (Number own value at) ty is = guarded as_is (is_in m.program own value) _ _ _ refl tt
    value_alike (Truth value at) ty is = refl
    value_alike (Character code at) ty is = refl
    value_alike (Local local name at) ty is = local_value (value_at s local)
    value_alike (Negate own at operand) ty is =
        let is = three (same_type own ty) (is_arithmetic m.program ty) (is_expr m.program locals ty operand) is in
        bound_given (Is m.program ty) as_is as_is (evaluate m s operand) _ _ _ (evaluate_typed m locals s typed operand ty is.2) (value_alike operand ty is.2) (λ v k.
        known (plain.number_in v) (number_of v) as_is _ _ (number_known m.program ty v (arithmetic_is_integer m.program ty is.1) k) (ranges m.program own at (neg_ℤ (number_of v))))
    value_alike (Not at operand) ty is =
        let is = both (same_type ty types.Bool) (is_expr m.program locals types.Bool operand) is in
        bound_given (Is m.program types.Bool) as_is as_is (evaluate m s operand) _ _ _ (evaluate_typed m locals s typed operand types.Bool is.1) (value_alike operand types.Bool is.1) (λ v k.
        known (plain.truth_in v) (truth_of v) as_is (Gives (values.Truth (not (truth_of v)))) (λ b. outcomes.Gives (values.Truth (not b))) (truth_known m.program v k) refl)
    value_alike (Sum own first rest) ty is =
        let is = four (same_type own ty) (is_arithmetic m.program ty) (is_expr m.program locals ty first) (are_addends m.program locals ty rest) is in
        let integer = arithmetic_is_integer m.program ty is.1 in
        bound_given (Is m.program ty) as_is as_is (evaluate m s first) _ _ _ (evaluate_typed m locals s typed first ty is.2) (value_alike first ty is.2) (λ v k.
        addends_alike rest own v ty integer (number_known m.program ty v integer k) is.3)
    value_alike (Product own first rest) ty is =
        let is = four (same_type own ty) (is_arithmetic m.program ty) (is_expr m.program locals ty first) (are_factors m.program locals ty rest) is in
        let integer = arithmetic_is_integer m.program ty is.1 in
        bound_given (Is m.program ty) as_is as_is (evaluate m s first) _ _ _ (evaluate_typed m locals s typed first ty is.2) (value_alike first ty is.2) (λ v k.
        factors_alike rest own v ty integer (number_known m.program ty v integer k) is.3)
    value_alike (Junction junction first rest) ty is =
        let is = three (same_type ty types.Bool) (is_expr m.program locals types.Bool first) (are_members m.program locals rest) is in
        bound_given (Is m.program types.Bool) as_is as_is (evaluate m s first) _ _ _ (evaluate_typed m locals s typed first types.Bool is.1) (value_alike first types.Bool is.1) (λ v k.
        junction_alike rest junction v (truth_known m.program v k) is.2)
    value_alike (Implies arrow first rest) ty is =
        let is = three (same_type ty types.Bool) (is_expr m.program locals types.Bool first) (are_members m.program locals rest) is in
        bound_given (Is m.program types.Bool) as_is as_is (evaluate m s first) _ _ _ (evaluate_typed m locals s typed first types.Bool is.1) (value_alike first types.Bool is.1) (λ v k.
        implications_alike rest v (truth_known m.program v k) is.2)
    value_alike (Iff first rest) ty is =
        let is = three (same_type ty types.Bool) (is_expr m.program locals types.Bool first) (are_members m.program locals rest) is in
        bound_given (Is m.program types.Bool) as_is as_is (evaluate m s first) _ _ _ (evaluate_typed m locals s typed first types.Bool is.1) (value_alike first types.Bool is.1) (λ v k.
        equivalences_alike rest v (truth_known m.program v k) is.2)
    value_alike (Chain own first rest) ty is =
        let is = three (same_type ty types.Bool) (is_expr m.program locals own first) (are_links m.program locals own rest) is in
        bound_given (Is m.program own) as_is as_is (evaluate m s first) _ _ _ (evaluate_typed m locals s typed first own is.1) (value_alike first own is.1) (λ v k. links_alike rest own v k is.2)
    value_alike (As from target at operand) ty is =
        let is = three (same_type target ty) (casts m.program from target) (is_expr m.program locals from operand) is in
        bound_given (Is m.program from) as_is as_is (evaluate m s operand) _ _ _ (evaluate_typed m locals s typed operand from is.2) (value_alike operand from is.2) (λ v k.
        known (plain.number_from (kind_of m.program from) v) (number_of v) as_is _ _ (cast_known m.program from target v is.1 k) (casted m.program target at (number_of v)))
    value_alike (Convert from target at operand) ty is =
        let is = three (same_type target ty) (converts from target) (is_expr m.program locals from operand) is in
        kept_by (Is m.program from) as_is (evaluate m s operand) _ _ (evaluate_typed m locals s typed operand from is.2) (value_alike operand from is.2) (λ v h. conversion_stays m.program from target at v h)

    addends_alike : (rest : Addends) (own : Ty) (v : Value) (ty : Ty) → is_integer m.program ty ≡ true → IsNumber v → are_addends m.program locals ty rest ≡ true
        → Simulates as_is (evaluate_addends m s own v rest) (plain.evaluate_addends n (state_of s) (range_of m.program own) v (erase_addends m.program rest))
    addends_alike no_addend own v ty integer h is = refl
    addends_alike (addend operator at operand rest) own v ty integer h is =
        let is = both (is_expr m.program locals ty operand) (are_addends m.program locals ty rest) is in
        bound_given (Is m.program ty) as_is as_is (evaluate m s operand) _ _ _ (evaluate_typed m locals s typed operand ty is.0) (value_alike operand ty is.0) (λ w k.
        bound_given IsNumber as_is as_is (in_range m.program own at (summed operator (number_of v) (number_of w))) _ _ _ (range_number m.program own at (summed operator (number_of v) (number_of w)))
        (sum_alike m.program operator own at v w h (number_known m.program ty w integer k)) (λ u l. addends_alike rest own u ty integer l is.1))

    factors_alike : (rest : Factors) (own : Ty) (v : Value) (ty : Ty) → is_integer m.program ty ≡ true → IsNumber v → are_factors m.program locals ty rest ≡ true
        → Simulates as_is (evaluate_factors m s own v rest) (plain.evaluate_factors n (state_of s) (range_of m.program own) v (erase_factors m.program rest))
    factors_alike no_factor own v ty integer h is = refl
    factors_alike (factor operator at operand rest) own v ty integer h is =
        let is = both (is_expr m.program locals ty operand) (are_factors m.program locals ty rest) is in
        bound_given (Is m.program ty) as_is as_is (evaluate m s operand) _ _ _ (evaluate_typed m locals s typed operand ty is.0) (value_alike operand ty is.0) (λ w k.
        bound_given IsNumber as_is as_is (multiplied m.program operator own at (number_of v) (number_of w)) _ _ _ (product_number m.program operator own at (number_of v) (number_of w))
        (product_alike m.program operator own at v w h (number_known m.program ty w integer k)) (λ u l. factors_alike rest own u ty integer l is.1))

    junction_alike : (rest : Members) (junction : JunctionKind) (v : Value) → IsTruth v → are_members m.program locals rest ≡ true
        → Simulates as_is (evaluate_junction m s junction v rest) (plain.evaluate_junction n (state_of s) junction v (erase_members m.program rest))
    junction_alike no_member junction v h is = refl
    junction_alike (member at operand rest) junction v h is =
        let is = both (is_expr m.program locals types.Bool operand) (are_members m.program locals rest) is in
        known (plain.truth_in v) (truth_of v) as_is _ _ h (chosen as_is (decides junction (truth_of v)) _ _ _ _ refl
        (bound_given (Is m.program types.Bool) as_is as_is (evaluate m s operand) _ _ _ (evaluate_typed m locals s typed operand types.Bool is.0) (value_alike operand types.Bool is.0) (λ w k.
        junction_alike rest junction w (truth_known m.program w k) is.1)))

    implications_alike : (rest : Members) (v : Value) → IsTruth v → are_members m.program locals rest ≡ true
        → Simulates as_is (evaluate_implications m s v rest) (plain.evaluate_implications n (state_of s) v (erase_members m.program rest))
    implications_alike no_member v h is = refl
    implications_alike (member at operand rest) v h is =
        let is = both (is_expr m.program locals types.Bool operand) (are_members m.program locals rest) is in
        known (plain.truth_in v) (truth_of v) as_is _ _ h (chosen as_is (truth_of v) _ _ _ _
        (bound_given (Is m.program types.Bool) as_is as_is (evaluate m s operand) _ _ _ (evaluate_typed m locals s typed operand types.Bool is.0) (value_alike operand types.Bool is.0) (λ w k.
        implications_alike rest w (truth_known m.program w k) is.1)) refl)

    equivalences_alike : (rest : Members) (v : Value) → IsTruth v → are_members m.program locals rest ≡ true
        → Simulates as_is (evaluate_equivalences m s v rest) (plain.evaluate_equivalences n (state_of s) v (erase_members m.program rest))
    equivalences_alike no_member v h is = refl
    equivalences_alike (member at operand rest) v h is =
        let is = both (is_expr m.program locals types.Bool operand) (are_members m.program locals rest) is in
        bound_given (Is m.program types.Bool) as_is as_is (evaluate m s operand) _ _ _ (evaluate_typed m locals s typed operand types.Bool is.0) (value_alike operand types.Bool is.0) (λ w k.
        known (plain.equivalent v w) (values.Truth (same_truth (truth_of v) (truth_of w))) as_is _ _ (equivalent_known v w h (truth_known m.program w k))
        (equivalences_alike rest (values.Truth (same_truth (truth_of v) (truth_of w))) refl is.1))

    links_alike : (rest : Links) (ty : Ty) (v : Value) → Is m.program ty v → are_links m.program locals ty rest ≡ true
        → Simulates as_is (evaluate_links m s v rest) (plain.evaluate_links n (state_of s) v (erase_links m.program rest))
    links_alike no_link ty v h is = refl
    links_alike (link comparison at operand rest) ty v h is =
        let is = three (compares m.program ty comparison) (is_expr m.program locals ty operand) (are_links m.program locals ty rest) is in
        bound_given (Is m.program ty) as_is as_is (evaluate m s operand) _ _ _ (evaluate_typed m locals s typed operand ty is.1) (value_alike operand ty is.1) (λ w k.
        known (plain.compared comparison v w) (compare comparison v w) as_is _ _ (compared_known m.program ty comparison v w is.0 h k)
        (chosen as_is (compare comparison v w) _ _ _ _ (links_alike rest ty w k is.2) refl))

  -- a guard
  pub guard_known : {A : Type 0} {B : Type 0} (view : A → B) (e : Expr) (f : Value → Outcome A) (g : Bool → outcomes.Outcome B) → is_expr m.program locals types.Bool e ≡ true → ((v : Value) → Simulates view (f v) (g (truth_of v)))
      → Simulates view (after (evaluate m s e) f) (outcomes.after (plain.evaluate n (state_of s) (erase_expr m.program e)) (λ v. outcomes.after (plain.truth_in v) g))
  guard_known view e f g is h =
      bound_given (Is m.program types.Bool) as_is view (evaluate m s e) _ _ _ (evaluate_typed m locals s typed e types.Bool is) (value_alike e types.Bool is) (λ v k.
      known (plain.truth_in v) (truth_of v) view _ _ (truth_known m.program v k) (h v))

  -- a value that is printed
  pub shown_alike : (e : Expr) (ty : Ty) → is_expr m.program locals ty e ≡ true
      → Simulates as_is (evaluate m s e) (outcomes.after (plain.evaluate n (state_of s) (erase_expr m.program e)) (plain.of_kind (kind_of m.program ty)))
  shown_alike e ty is = looked_at (Is m.program ty) (evaluate m s e) _ (plain.of_kind (kind_of m.program ty)) (evaluate_typed m locals s typed e ty is) (value_alike e ty is) (λ v k. kind_known m.program ty v k)
