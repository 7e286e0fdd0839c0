-- A guard that has a measure by default in the source has one in the program.
use Rattle.std.proofs.Common.{◌≡◌, Bool, true, ◌&&◌, ◌||◌, List, Option, Some, None, refl, sym, ap, subst, ◌∙◌}
use Rattle.std.specs.Prelude.{is_some}
use Rattle.df_base.specs.declared.pos.Pos.{Pos}
use Rattle.df_lang.specs.declared.ty.Ty.{Ty}
use Rattle.df_lang.specs.declared.ty.Ty.TheVariants as types
use Rattle.df_lang.specs.Expr as typed
use Rattle.df_lang.specs.Measures.{comparison_measure, guard_measure}
use Rattle.df_lemmas.proofs.Truths.{three}
use Rattle.df_ntree.specs.declared.expr.BinaryOperator.{BinaryOperator}
use Rattle.df_ntree.specs.declared.expr.BinaryOperator.TheVariants as binary
use Rattle.df_ntree.specs.declared.expr.Group.{Group}
use Rattle.df_ntree.specs.declared.expr.Group.TheVariants as groups
use Rattle.df_ntree.specs.Expr.{Expr, Number, Character, Truth, Name, Parentheses, Call, Unary, Cast, Operations, Leading, Members, end, more}
use Rattle.df_ntree.specs.ExprSpelling.{first_group, IsExpr}
use Rattle.df_ntyping.specs.Types.{counted, is_integer, if_type_known, is_order}
use Rattle.df_ntyping.specs.Environment.{Environment}
use Rattle.df_ntyping.specs.ExprTypes.{type_in, wanted_first, wanted_behind, expected_inside}
use Rattle.df_ntyping.specs.rules.Loops.{compares_integers, is_conjunction, is_comparison, has_measure}
use Rattle.df_ntyping.specs.ExprElaboration.{Part, comparison_of, links_of, Converts, IsRun, IsLeading, Elaborates, AreOperands}
use Rattle.df_ntyping.proofs.Types.{counted_integer, one_type}
use Rattle.df_ntyping.proofs.WellTyped.{or_false}

order_measured : (of : Ty) (at : Pos) (one : typed.Expr) (operator : BinaryOperator) (other : typed.Expr) → is_integer of ≡ true → is_order operator ≡ true → is_some (comparison_measure of at one (comparison_of operator) other) ≡ true
order_measured types.Bool at one operator other p q = absurd cc
order_measured types.Char at one operator other p q = absurd cc
order_measured (types.Newtype id) at one binary.Less other p q = refl
order_measured (types.Newtype id) at one binary.AtMost other p q = refl
order_measured (types.Newtype id) at one binary.Greater other p q = refl
order_measured (types.Newtype id) at one binary.AtLeast other p q = refl
order_measured types.Int at one binary.Less other p q = refl
order_measured types.Int at one binary.AtMost other p q = refl
order_measured types.Int at one binary.Greater other p q = refl
order_measured types.Int at one binary.AtLeast other p q = refl
order_measured types.Nat at one binary.Less other p q = refl
order_measured types.Nat at one binary.AtMost other p q = refl
order_measured types.Nat at one binary.Greater other p q = refl
order_measured types.Nat at one binary.AtLeast other p q = refl
order_measured of at one operator other p q = absurd cc

comparison_measured : (env : Environment) (first : Expr) (rest : Members) (wanted : Option Ty) (of source : Ty) (one t : typed.Expr) (parts : List Part)
    → type_in env (wanted_first env None first rest) first ≡ Some source → counted source ≡ of → compares_integers env first rest ≡ true
    → AreOperands env wanted of rest parts → t ≡ typed.Chain of one (links_of parts) → is_some (guard_measure t) ≡ true
comparison_measured env first end wanted of source one t parts h counts c operands r = absurd cc
comparison_measured env first (more operator at operand (more a b d e)) wanted of source one t parts h counts c operands r = absurd cc
comparison_measured env first (more operator at operand end) wanted of source one t parts h counts c (other, inner, right, others, e, count, conversion, none, q) r =
    let w = wanted_first env None first (more operator at operand end) in
    let all = three (is_order operator) (if_type_known is_integer (type_in env w first)) (if_type_known is_integer (type_in env (wanted_behind env w first) operand)) c in
    let integer : is_integer source ≡ true = rw h at all.1 in
    let of_integer : is_integer of ≡ true = sym (ap is_integer counts) ∙ counted_integer source ∙ integer in
    rw (r, q, none) (order_measured of at one operator right of_integer all.0)

counted_truth : (source : Ty) → counted source ≡ types.Bool → source ≡ types.Bool
counted_truth (types.Newtype id) p = p
counted_truth types.Int p = p
counted_truth types.Nat p = absurd cc
counted_truth types.Bool p = p
counted_truth types.Char p = p

same_truth : (source of : Ty) (e : Expr) (inner one : typed.Expr) → source ≡ types.Bool → of ≡ types.Bool → Converts source of e inner one → one ≡ inner
same_truth types.Bool types.Bool e inner one p q h = h
same_truth source of e inner one p q h = absurd cc

run_measured : (env : Environment) (first : Expr) (rest : Members) (expected wanted : Option Ty) (group : Option Group) (of source : Ty) (inner one t : typed.Expr) (parts : List Part)
    → type_in env (wanted_first env (expected_inside group expected) first rest) first ≡ Some source → counted source ≡ of → Converts source of first inner one → AreOperands env wanted of rest parts
    → IsRun group rest of one parts types.Bool t → (has_measure env first ≡ true → source ≡ types.Bool → is_some (guard_measure inner) ≡ true)
    → ((is_comparison group && compares_integers env first rest) || (is_conjunction group && has_measure env first)) ≡ true → is_some (guard_measure t) ≡ true
run_measured env first rest expected wanted None of source inner one t parts h counts conversion operands run inside c = absurd run
run_measured env first rest expected wanted (Some groups.Comparison) of source inner one t parts h counts conversion operands (a, b, p, q) inside c =
    comparison_measured env first rest wanted of source one t parts h counts (or_false (compares_integers env first rest) c) operands q
run_measured env first rest expected wanted (Some groups.Conjunction) of source inner one t parts h counts conversion operands (truth, p, q) inside c =
    let bool : source ≡ types.Bool = counted_truth source (counts ∙ truth) in
    rw (q, same_truth source of first inner one bool truth conversion) (inside c bool)
run_measured env first rest expected wanted (Some group) of source inner one t parts h counts conversion operands run inside c = absurd cc

leading_measured : (group : Option Group) (one t : typed.Expr) (parts : List Part) (measured : Bool) → IsLeading group one parts t → (is_conjunction group && measured) ≡ true → (measured ≡ true → is_some (guard_measure one) ≡ true)
    → is_some (guard_measure t) ≡ true
leading_measured None one t parts measured run c inside = absurd run
leading_measured (Some groups.Conjunction) one t parts measured run c inside = rw run (inside c)
leading_measured (Some group) one t parts measured run c inside = absurd cc

pub guard_measured : (env : Environment) (expected : Option Ty) (e : Expr) (t : typed.Expr) → IsExpr e → has_measure env e ≡ true → Elaborates env expected e types.Bool t → is_some (guard_measure t) ≡ true
guard_measured env expected (Parentheses at inner) t g c h = guard_measured env expected inner t g c h
guard_measured env expected (Operations first rest) t g c (of, source, inner, one, parts, h, counts, conversion, operands, run) =
    let wanted = wanted_first env (expected_inside (first_group rest) expected) first rest in
    run_measured env first rest expected (wanted_behind env wanted first) (first_group rest) of source inner one t parts (one_type env wanted first source inner g.2 h) counts conversion operands run
    (λ measured bool. guard_measured env wanted first inner g.2 measured (subst (λ (ty : Ty). Elaborates env wanted first ty inner) bool h)) c
guard_measured env expected (Leading end) t g c h = absurd h
guard_measured env expected (Leading (more operator at operand rest)) t g c (one, parts, h, operands, p, leading) =
    leading_measured (first_group (more operator at operand rest)) one t parts (has_measure env operand) leading c (λ measured. guard_measured env None operand one g.3.1 measured h)
guard_measured env expected (Number literal) t g c h = absurd cc
guard_measured env expected (Character code at) t g c h = absurd cc
guard_measured env expected (Truth value at) t g c h = absurd cc
guard_measured env expected (Name ident) t g c h = absurd cc
guard_measured env expected (Call callee arguments) t g c h = absurd cc
guard_measured env expected (Unary operator at operand) t g c h = absurd cc
guard_measured env expected (Cast operand all) t g c h = absurd cc
