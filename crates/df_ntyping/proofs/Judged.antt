-- The walk over an expression is right.
use Rattle.std.proofs.Common.{◌≡◌, ℕ, ℤ, suc, ◌+◌, ◌≤◌, false, List, [], ◌∷◌, ◌++◌, length, Option, Some, None, Ok, Err, refl, sym, subst, arith}
use Rattle.df_lang.specs.declared.ty.Ty.{Ty}
use Rattle.df_lang.specs.declared.ty.Ty.TheVariants as types
use Rattle.df_ntree.specs.declared.tree.Literal.{Literal}
use Rattle.df_ntree.specs.declared.expr.UnaryOperator.TheVariants as unary
use Rattle.df_ntree.specs.declared.expr.Group.{Group}
use Rattle.df_ntree.specs.declared.expr.Group.TheVariants as groups
use Rattle.df_ntree.specs.declared.expr.Level.TheVariants as levels
use Rattle.df_ntree.specs.Operator.{group_of, level_of}
use Rattle.df_ntree.specs.Expr.{Expr, Number, Character, Truth, Name, Parentheses, Call, Unary, Cast, Operations, Leading, Members, end, more, Arguments, no_more, argument}
use Rattle.df_ntree.specs.ExprSpelling.{spell_members, first_group, IsExpr, AreOf, AreArguments}
use Rattle.df_ntyping.specs.Environment.{Environment}
use Rattle.df_ntyping.specs.Meaning.{meaning_of, called_signature}
use Rattle.df_ntyping.specs.ExprTypes.{type_in, wanted_first, wanted_behind}
use Rattle.df_ntyping.specs.ExprNodes.{width, callee_nodes, places_of, first_place, other_places, left_of_next, expr_nodes, run_nodes, argument_nodes}
use Rattle.df_ntyping.specs.LocalTypes.{names_in, names_in_members, names_in_arguments}
use Rattle.df_ntyping.proofs.ExprOrder.{width_operations, width_members}
use Rattle.df_ntyping.specs.mirror.Parts.{Typed, Row, Answer, and_then, inside, type_of_operand}
use Rattle.df_ntyping.specs.mirror.Signs.{is_implication, left_behind}
use Rattle.df_ntyping.specs.mirror.Looking.{whole_by, leading_by, given, callee_inside, look_by, rows_by, arguments_by}
use Rattle.df_ntyping.proofs.FirstFault.{NoNames, silent_none, named_left, named_right}
use Rattle.df_ntyping.proofs.OpenExprs.{Holds, HoldAll, HoldArguments}
use Rattle.df_ntyping.proofs.Fitting.{group_rule}
use Rattle.df_ntyping.proofs.Verdict.{HaveTypes, types_left, types_right, Looked, Verdict, not_outer, name_judged, parentheses_judged, minus_judged, denied_judged, cast_judged}
use Rattle.df_ntyping.proofs.Giving.{PartVerdict, callee_named, value_judged, argument_judged, callee_judged, call_judged}
use Rattle.df_ntyping.proofs.Runs.{Knows, right_type}
use Rattle.df_ntyping.proofs.RunRows.{RowsVerdict, no_rows, row_judged}
use Rattle.df_ntyping.proofs.Implications.{LookedVerdict, no_operands, operand_judged}
use Rattle.df_ntyping.proofs.Wholes.{WholeVerdict, first_known, head_broken, rows_whole, arrows_whole, leading_whole}

-- ---- names in the operands of a run

abbrev pub OperandsNamed : Environment → ℕ → Members → Type 0
OperandsNamed env sign end = Unit {0}
OperandsNamed env sign (more operator at e rest) = NoNames (expr_nodes env (suc sign) e) × OperandsNamed env (sign + 1 + width e) rest

operands_named : (env : Environment) (group : Option Group) (start sign : ℕ) (wanted left : Option Ty) (after : ℕ) (rest : Members) → NoNames (run_nodes env group start sign wanted left after rest) → OperandsNamed env sign rest
operands_named env group start sign wanted left after end n = tt
operands_named env (Some groups.Implication) start sign wanted left after (more operator at e rest) n =
    let both = named_left (expr_nodes env (suc sign) e ++ run_nodes env (Some groups.Implication) (suc sign) (sign + 1 + width e) None (type_in env None e) after rest) _ n in
    (named_left (expr_nodes env (suc sign) e) _ both, operands_named env (Some groups.Implication) (suc sign) (sign + 1 + width e) None (type_in env None e) after rest (named_right (expr_nodes env (suc sign) e) _ both))
operands_named env group start sign wanted left after (more operator at e rest) n = (
  named_left (expr_nodes env (suc sign) e) _ n,
  operands_named env group start (sign + 1 + width e) (wanted_behind env wanted e) (left_of_next group left (type_in env wanted e)) after rest (named_right (_ ∷ []) _ (named_right (expr_nodes env (suc sign) e) _ n)),
)

-- ---- whole runs, behind the first operand

head_judged : (value : Literal → ℤ) (env : Environment) (start : ℕ) (g : Group) (first : Expr) (rest : Members) (answer : Answer (Option Typed)) (rows : Option Typed → Answer (List Row)) → first_group rest ≡ Some g → IsExpr first → AreOf rest g → Verdict env start first answer
    → ((o : Option Typed) → Looked env first o → WholeVerdict value env start g first rest o (rows o))
    → Verdict env start (Operations first rest) (and_then (inside answer) (λ (o : Option Typed). and_then (rows o) (whole_by value (Some g) first o rest)))
head_judged value env start g first rest (Ok o) rows p x all v rec = rec o v
head_judged value env start g first rest (Err broken) rows p x all v rec = (head_broken env start first rest g broken p x all v.0, not_outer env (Operations first rest) broken.rule broken.pos)

-- of a group that holds to the left, or of implications
whole_judged : (value : Literal → ℤ) (env : Environment) (start : ℕ) (g : Group) (first : Expr) (rest : Members) (o : Option Typed) (answer : Answer (List Row)) → first_group rest ≡ Some g → IsExpr first → AreOf rest g → Holds value first → Looked env first o
    → (is_implication (Some g) ≡ false → (wanted : Option Ty) (left : Ty) (known : Option Ty) → Knows env wanted left known rest
    → RowsVerdict value env g start (start + width first) wanted left known (start + width (Operations first rest)) rest (rows_by value env (Some g) known rest))
    → (g ≡ groups.Implication
    → LookedVerdict env start (start + width first) (wanted_behind env (wanted_first env None first rest) first) (type_in env (wanted_first env None first rest) first) (start + width (Operations first rest)) rest (rows_by value env (Some groups.Implication) (type_of_operand o) rest))
    → WholeVerdict value env start g first rest o (rows_by value env (Some g) (type_of_operand o) rest)
whole_judged value env start groups.Implication first rest o answer p x all h v rows arrows = arrows_whole value env start first rest o (rows_by value env (Some groups.Implication) (type_of_operand o) rest) p x all v (arrows refl)
whole_judged value env start g first rest o answer p x all h v rows arrows =
    let known = first_known env first rest o x v in
    rows_whole value env start g first rest o (rows_by value env (Some g) (type_of_operand o) rest) refl p x all h v known
    (rows refl (wanted_behind env (wanted_first env None first rest) first) (right_type (wanted_first env None first rest) o) (type_of_operand o) known.1)

leading_left : (g : Group) → level_of g ≡ levels.Junction → is_implication (Some g) ≡ false
leading_left groups.Conjunction p = refl
leading_left groups.Disjunction p = refl
leading_left g p = absurd cc

mutual
  pub judged : (value : Literal → ℤ) (env : Environment) (start : ℕ) (e : Expr) → IsExpr e → Holds value e → HaveTypes env (names_in e) → NoNames (expr_nodes env start e) → Verdict env start e (look_by value env e)
  judged value env start (Number literal) x h t n = refl
  judged value env start (Character code at) x h t n = (refl, (refl, refl))
  judged value env start (Truth b at) x h t n = (refl, (refl, refl))
  judged value env start (Name ident) x h t n = name_judged env start ident t n (meaning_of env ident.name) refl
  judged value env start (Parentheses at inner) x h t n = parentheses_judged env start at inner (look_by value env inner) x (judged value env (suc start) inner x h t n)
  judged value env start (Call callee arguments) x h t n =
      let places = places_of (called_signature env callee) in
      let parts = named_left (callee_nodes env start callee (expr_nodes env start callee) ++ argument_nodes env (start + width callee + 1) places arguments) _ n in
      let of_callee = named_left (callee_nodes env start callee (expr_nodes env start callee)) _ parts in
      call_judged env start callee arguments (callee_inside callee (look_by value env callee)) (arguments_by value env places arguments) x.0 x.2
      (callee_judged env start callee (look_by value env callee) x.0 of_callee (judged value env start callee x.0 h.0 (types_left env (names_in callee) (names_in_arguments arguments) t) (callee_named env start callee of_callee)))
      (arguments_judged value env (start + width callee + 1) places arguments x.2 h.1 (types_right env (names_in callee) (names_in_arguments arguments) t) (named_right (callee_nodes env start callee (expr_nodes env start callee)) _ parts))
  judged value env start (Unary unary.Negate at operand) x h t n =
      minus_judged env start at operand (look_by value env operand) x.0 (judged value env (suc start) operand x.0 h t (named_left (expr_nodes env (suc start) operand) _ n))
  judged value env start (Unary unary.Not at operand) x h t n =
      denied_judged env start at operand (look_by value env operand) x.0 (judged value env (suc start) operand x.0 h t (named_left (expr_nodes env (suc start) operand) _ n))
  judged value env start (Cast operand all) x h t n =
      cast_judged value env start operand all (look_by value env operand) x.2.0 x.0 h n (judged value env start operand x.0 h t (named_left (expr_nodes env start operand) _ n))
  judged value env start (Operations first rest) x h t n =
      let after = start + width (Operations first rest) in
      let sign = start + width first in
      let wanted = wanted_first env None first rest in
      let both = named_left (expr_nodes env start first ++ run_nodes env (first_group rest) start sign (wanted_behind env wanted first) (type_in env wanted first) after rest) _ n in
      let named : OperandsNamed env sign rest = operands_named env (first_group rest) start sign (wanted_behind env wanted first) (type_in env wanted first) after rest (named_right (expr_nodes env start first) _ both) in
      let types = types_right env (names_in first) (names_in_members rest) t in
      subst (λ (group : Option Group). Verdict env start (Operations first rest) (and_then (inside (look_by value env first)) (λ (o : Option Typed). and_then (rows_by value env group (type_of_operand o) rest) (whole_by value group first o rest)))) (sym x.1)
      (head_judged value env start x.0 first rest (look_by value env first) (λ (o : Option Typed). rows_by value env (Some x.0) (type_of_operand o) rest) x.1 x.2 x.4
      (judged value env start first x.2 h.0 (types_left env (names_in first) (names_in_members rest) t) (named_left (expr_nodes env start first) _ both))
      (λ o v.
      whole_judged value env start x.0 first rest o (rows_by value env (Some x.0) (type_of_operand o) rest) x.1 x.2 x.4 h.0 v
      (λ i wanted left known k. rows_judged value env x.0 start sign wanted left known after rest i x.4 h.1 types named (omega arith) (omega (arith, width_operations first rest)) k)
      (λ arrow.
      operands_looked value env x.0 start sign (wanted_behind env wanted first) (type_in env wanted first) (type_of_operand o) after rest arrow x.4 h.1 types named (omega arith) (omega (arith, width_operations first rest)))))
  judged value env start (Leading end) x h t n = let wrong : None ≡ Some x.0 = x.1 in absurd cc
  judged value env start (Leading (more operator at e rest)) x h t n =
      let after = start + width (Leading (more operator at e rest)) in
      let named : OperandsNamed env start (more operator at e rest) = operands_named env (Some (group_of operator)) start start None (Some types.Bool) after (more operator at e rest) n in
      let i = leading_left x.0 x.2 in
      subst (λ (group : Group). Verdict env start (Leading (more operator at e rest)) (and_then (rows_by value env (Some group) (Some types.Bool) (more operator at e rest)) (λ (rows : List Row). Ok (leading_by value (Some group) rows)))) (sym x.3.0)
      (leading_whole value env start x.0 operator at e rest (rows_by value env (Some x.0) (Some types.Bool) (more operator at e rest)) x.3.0 x.2 x.3
      (row_judged value env x.0 start start None types.Bool (Some types.Bool) after operator at e rest (look_by value env e) i (group_rule x.0 operator x.3.0) x.3.1 x.3.3 h.0 (omega arith) refl (refl, refl, refl)
      (judged value env (suc start) e x.3.1 h.0 (types_left env (names_in e) (names_in_members rest) t) named.0)
      (λ wanted left known k.
      rows_judged value env x.0 start (start + 1 + width e) wanted left known after rest i x.3.3 h.1 (types_right env (names_in e) (names_in_members rest) t) named.1 (omega arith) (omega (arith, width_members operator at e rest)) k)))

  rows_judged : (value : Literal → ℤ) (env : Environment) (g : Group) (start sign : ℕ) (wanted : Option Ty) (left : Ty) (known : Option Ty) (after : ℕ) (rest : Members) → is_implication (Some g) ≡ false → AreOf rest g → HoldAll value rest
      → HaveTypes env (names_in_members rest) → OperandsNamed env sign rest → start ≤ sign → after ≡ sign + length (spell_members rest) → Knows env wanted left known rest → RowsVerdict value env g start sign wanted left known after rest (rows_by value env (Some g) known rest)
  rows_judged value env g start sign wanted left known after end i all h t n p q k = no_rows value env g start sign wanted left known after k
  rows_judged value env g start sign wanted left known after (more operator at e rest) i all h t n p q k =
      row_judged value env g start sign wanted left known after operator at e rest (look_by value env e) i (group_rule g operator all.0) all.1 all.3 h.0 p q k
      (judged value env (suc sign) e all.1 h.0 (types_left env (names_in e) (names_in_members rest) t) n.0)
      (λ wanted left known k.
      rows_judged value env g start (sign + 1 + width e) wanted left known after rest i all.3 h.1 (types_right env (names_in e) (names_in_members rest) t) n.1 (omega arith) (omega (arith, q, width_members operator at e rest)) k)

  operands_looked : (value : Literal → ℤ) (env : Environment) (g : Group) (start sign : ℕ) (wanted left known : Option Ty) (after : ℕ) (rest : Members) → g ≡ groups.Implication → AreOf rest g → HoldAll value rest
      → HaveTypes env (names_in_members rest) → OperandsNamed env sign rest → start ≤ sign → after ≡ sign + length (spell_members rest) → LookedVerdict env start sign wanted left after rest (rows_by value env (Some groups.Implication) known rest)
  operands_looked value env g start sign wanted left known after end arrow all h t n p q = no_operands env start sign wanted left after
  operands_looked value env g start sign wanted left known after (more operator at e rest) arrow all h t n p q =
      operand_judged env start sign wanted left known after operator at e rest (look_by value env e)
      (λ (o : Option Typed). rows_by value env (Some groups.Implication) (left_behind (Some groups.Implication) known (type_of_operand o)) rest) all.1 (subst (AreOf rest) arrow all.3) p q
      (judged value env (suc sign) e all.1 h.0 (types_left env (names_in e) (names_in_members rest) t) n.0)
      (λ o.
      operands_looked value env g (suc sign) (sign + 1 + width e) None (type_in env None e) (left_behind (Some groups.Implication) known (type_of_operand o)) after rest arrow all.3 h.1 (types_right env (names_in e) (names_in_members rest) t) n.1
      (omega arith) (omega (arith, q, width_members operator at e rest)))

  arguments_judged : (value : Literal → ℤ) (env : Environment) (start : ℕ) (places : List (Option Ty)) (arguments : Arguments) → AreArguments arguments → HoldArguments value arguments → HaveTypes env (names_in_arguments arguments)
      → NoNames (argument_nodes env start places arguments) → PartVerdict (argument_nodes env start places arguments) (arguments_by value env places arguments)
  arguments_judged value env start places no_more x h t n = silent_none
  arguments_judged value env start places (argument e rest) x h t n =
      argument_judged env start places e rest (given env (first_place places) e (look_by value env e)) (arguments_by value env (other_places places) rest) x.0 x.1
      (value_judged env start (first_place places) e (look_by value env e) x.0 (judged value env start e x.0 h.0 (types_left env (names_in e) (names_in_arguments rest) t) (named_left (expr_nodes env start e) _ n)))
      (arguments_judged value env (start + width e + 1) (other_places places) rest x.1 h.1 (types_right env (names_in e) (names_in_arguments rest) t) (named_right (_ ∷ []) _ (named_right (expr_nodes env start e) _ n)))
