-- The walk over the signs of a run that holds to the left, with their operands, is right.
use Rattle.std.proofs.Common.{◌≡◌, ℕ, ℤ, suc, ◌+◌, ◌≤◌, Bool, true, false, not, List, [], ◌∷◌, ◌++◌, length, Option, Some, None, Ok, Err, refl, sym, ap, ◌∙◌, subst, inl, inr, arith}
use Rattle.std.specs.Prelude.{is_some}
use Rattle.std.proofs.lemmas.Bool.{and_parts}
use Rattle.df_base.specs.declared.pos.Pos.{Pos}
use Rattle.df_lang.specs.declared.ty.Ty.{Ty}
use Rattle.df_lang.specs.declared.ty.Ty.TheVariants as types
use Rattle.df_lang.specs.Expr as typed
use Rattle.df_ntree.specs.declared.tree.Literal.{Literal}
use Rattle.df_ntree.specs.declared.expr.BinaryOperator.{BinaryOperator}
use Rattle.df_ntree.specs.declared.expr.Group.{Group}
use Rattle.df_ntree.specs.Expr.{Expr, Members, end, more}
use Rattle.df_ntree.specs.ExprSpelling.{spell_members, IsExpr, AreOf}
use Rattle.df_ntyping.specs.Types.{counted, is_integer, are_one_integer, arithmetic, literal_type}
use Rattle.df_ntyping.specs.Environment.{Environment}
use Rattle.df_ntyping.specs.ExprTypes.{are_open, own_types, type_in, arithmetic_all, common_type, counted_of, first_or, wanted_behind}
use Rattle.df_ntyping.specs.ExprNodes.{width, occurrence, left_of_next, expr_nodes, run_nodes}
use Rattle.df_ntyping.specs.ExprElaboration.{Converts, Elaborates, AreOperands}
use Rattle.df_ntyping.specs.Node as nodes
use Rattle.df_ntyping.specs.Node.{Occurrence}
use Rattle.df_ntyping.specs.rules.Truths.{is_truth}
use Rattle.df_ntyping.proofs.Order.{Segment, alone}
use Rattle.df_ntyping.proofs.ExprOrder.{expr_order, run_order, width_members}
use Rattle.df_ntyping.proofs.Types.{one_integer, counted_twice, counted_integer}
use Rattle.df_ntyping.specs.Rule.{TypingRule as Own}
use Rattle.df_ntyping.specs.mirror.Parts.{Breach}
use Rattle.df_ntyping.specs.mirror.Parts.{Typed, Row, Answer, and_then, inside, breach, type_of_operand}
use Rattle.df_ntyping.specs.mirror.Literals.{opened_by}
use Rattle.df_ntyping.specs.mirror.Signs.{rule_of, takes_by, is_implication, or_side, left_behind, sign_holds, is_end, first_type, type_of_run, settled_by, all_settled_by}
use Rattle.df_ntyping.specs.mirror.Looking.{signed, with_row, rows_by}
use Rattle.df_ntyping.proofs.FirstFault.{Silent, silent_none, silent_one, silent_then, silent_both}
use Rattle.df_ntyping.proofs.Breaking.{known_both, sign_only, sign_lowest, sign_broken}
use Rattle.df_ntyping.proofs.MeetingTypes.{literal_integer, literal_of_integer, truth_equal, integer_no_truth, one_integer_parts, takes_same}
use Rattle.df_ntyping.proofs.OpenExprs.{Holds, opened_ty, opened_typed, any_expected}
use Rattle.df_ntyping.proofs.Fitting.{FitBy, AllFit, rule_in, is_logical_group, logical_rule_in}
use Rattle.df_ntyping.proofs.Silent.{run_more}
use Rattle.df_ntyping.proofs.Standing.{converts_there}
use Rattle.df_ntyping.proofs.Found.{Stands, Found, AllBeyond, beyond_then, beyond_segment, found_between, found_later, found_before, found_one}
use Rattle.df_ntyping.proofs.Verdict.{Looked, Verdict, looked_silent}
use Rattle.df_ntyping.proofs.Runs.{Knows, Next, is_sum, sum_rule, sum_behind, right_type, right_known, open_first, closed_first, sides_same, taken_fits, next_known, counted_wanted}

-- ---- one operand

abbrev pub Operand : (Literal → ℤ) → Environment → Option Ty → Ty → Expr → Option Typed → Type 0
Operand value env wanted of e o = (source : Ty) × (inner : typed.Expr) × Elaborates env wanted e source inner × (counted source ≡ of) × Converts source of e inner (settled_by value of e o)

pub operand_good : (value : Literal → ℤ) (env : Environment) (wanted : Option Ty) (of : Ty) (e : Expr) (o : Option Typed) → IsExpr e → Holds value e → Looked env e o → counted_of wanted ≡ wanted → counted (right_type wanted o) ≡ of → Operand value env wanted of e o
operand_good value env wanted of e (Some t) g h v p q = (t.ty, t.expr, any_expected env None wanted e t.ty t.expr v.0 v.1, q, converts_there of e t g)
operand_good value env wanted of e None g h v p q =
    let same : literal_type wanted ≡ of = sym (counted_wanted wanted p) ∙ q in
    let twice : counted of ≡ of = ap counted (sym same) ∙ q in
    let u = opened_by value of e in
    let k : Elaborates env wanted e u.ty u.expr = subst (λ (ty : Ty). Elaborates env wanted e (opened_by value ty e).ty (opened_by value ty e).expr) same (opened_typed value env wanted e v h) in
    (u.ty, u.expr, k, ap counted (opened_ty value of e twice) ∙ twice, converts_there of e u g)

pub bool_operand : (value : Literal → ℤ) (env : Environment) (wanted : Option Ty) (e : Expr) (o : Option Typed) (inner : typed.Expr) → Elaborates env wanted e types.Bool inner → Converts types.Bool types.Bool e inner (settled_by value types.Bool e o) → Operand value env wanted types.Bool e o
bool_operand value env wanted e o inner h c = (types.Bool, inner, h, refl, c)

-- ---- all of them

abbrev pub AllTruths : List Row → Type 0
AllTruths [] = Unit {0}
AllTruths (row ∷ rows) = (type_of_operand row.typed ≡ Some types.Bool) × AllTruths rows

abbrev pub RowsGood : (Literal → ℤ) → Environment → Group → Option Ty → Ty → Option Ty → Members → List Row → Type 0
RowsGood value env g wanted left known rest rows =
    let of = type_of_run (or_side known (first_type rows)) in
    (counted left ≡ of) × AreOperands env wanted of rest (all_settled_by value of rows) × AllFit of rest × (are_open rest ≡ not (is_some (first_type rows))) × (is_logical_group g ≡ true → AllTruths rows)

-- the type of a sum whose operands have these types, behind what is known
abbrev pub sum_of : Option Ty → List (Option Ty) → Option Ty
sum_of None all = common_type all
sum_of (Some ty) all = arithmetic_all (arithmetic (Some ty) (Some ty)) all

abbrev pub SumBroken : Environment → Group → Option Ty → Members → Breach → Type 0
SumBroken env g known rest broken = broken.is_whole ≡ true → is_sum g ≡ true → sum_of known (own_types env rest) ≡ None

abbrev pub RowsVerdict : (Literal → ℤ) → Environment → Group → (start sign : ℕ) → Option Ty → Ty → Option Ty → ℕ → Members → Answer (List Row) → Type 0
RowsVerdict value env g start sign wanted left known after rest (Ok rows) = RowsGood value env g wanted left known rest rows × Silent (run_nodes env (Some g) start sign wanted (Some left) after rest)
RowsVerdict value env g start sign wanted left known after rest (Err broken) = Found (run_nodes env (Some g) start sign wanted (Some left) after rest) start after broken × SumBroken env g known rest broken × (broken.is_whole ≡ true → rule_in g broken.rule ≡ true)

-- ---- the end

pub no_rows : (value : Literal → ℤ) (env : Environment) (g : Group) (start sign : ℕ) (wanted : Option Ty) (left : Ty) (known : Option Ty) (after : ℕ) → Knows env wanted left known end → RowsVerdict value env g start sign wanted left known after end (Ok [])
no_rows value env g start sign wanted left None after (p, q, r) = ((ap counted (p ∙ ap literal_type r), refl, tt, refl, λ s. tt), silent_none)
no_rows value env g start sign wanted left (Some known) after (p, q, r) = ((ap counted p, refl, tt, refl, λ s. tt), silent_none)

-- ---- one sign, with its operand

module _ (value : Literal → ℤ) (env : Environment) (g : Group) (start sign : ℕ) (wanted : Option Ty) (left : Ty) (known : Option Ty) (after : ℕ) (operator : BinaryOperator) (at : Pos) (e : Expr) (rest : Members) where
  abbrev sign_after : ℕ
  sign_after = sign + 1 + width e

  abbrev sign_at : Option Ty → Occurrence
  sign_at right = occurrence env (nodes.Sign (Some left) operator at right) start sign_after

  abbrev tail_from : Option Ty → List Occurrence
  tail_from next = run_nodes env (Some g) start sign_after (wanted_behind env wanted e) next after rest

  -- the rest of the run is in order
  tail_segment : (next : Option Ty) → AreOf rest g → start ≤ sign → after ≡ sign + length (spell_members (more operator at e rest)) → Segment start sign_after after (tail_from next)
  tail_segment next all p q = run_order env (Some g) start sign_after (wanted_behind env wanted e) next after rest g all (omega arith) (omega (arith, q, width_members operator at e rest))

  tail_beyond : (next : Option Ty) → AreOf rest g → start ≤ sign → after ≡ sign + length (spell_members (more operator at e rest)) → AllBeyond start sign_after (tail_from next)
  tail_beyond next all p q = beyond_segment start sign_after start sign_after after (tail_from next) (tail_segment next all p q) (omega arith)

  -- the nodes, where the type on the right is known
  seen : (right : Ty) (next : Option Ty) → is_implication (Some g) ≡ false → type_in env wanted e ≡ Some right → left_of_next (Some g) (Some left) (Some right) ≡ next
      → run_nodes env (Some g) start sign wanted (Some left) after (more operator at e rest) ≡ expr_nodes env (suc sign) e ++ sign_at (Some right) ∷ tail_from next
  seen right next i p q =
      run_more env g start sign wanted (Some left) after operator at e rest i
      ∙ ap (λ (r : Option Ty). expr_nodes env (suc sign) e ++ sign_at r ∷ tail_from (left_of_next (Some g) (Some left) r)) p
      ∙ ap (λ (l : Option Ty). expr_nodes env (suc sign) e ++ sign_at (Some right) ∷ tail_from l) q

  -- the operand breaks a rule
  operand_broken : (broken : Breach) → is_implication (Some g) ≡ false → IsExpr e → AreOf rest g → start ≤ sign → after ≡ sign + length (spell_members (more operator at e rest)) → Found (expr_nodes env (suc sign) e) (suc sign) (suc sign + width e) broken
      → Found (run_nodes env (Some g) start sign wanted (Some left) after (more operator at e rest)) start after (breach broken.rule broken.pos false)
  operand_broken broken i x all p q found =
      let right = type_in env wanted e in
      let next = left_of_next (Some g) (Some left) right in
      let size = width_members operator at e rest in
      subst (λ (nodes : List Occurrence). Found nodes start after (breach broken.rule broken.pos false)) (sym (run_more env g start sign wanted (Some left) after operator at e rest i))
      (found_between start after (suc sign) (suc sign) (suc sign + width e) (suc sign) (suc sign + width e) [] (expr_nodes env (suc sign) e) (sign_at right ∷ tail_from next) broken silent_none found (expr_order env (suc sign) e x)
      (beyond_then (suc sign) (suc sign + width e) (sign_at right) (tail_from next) (inr (omega arith, omega arith))
      (beyond_segment (suc sign) (suc sign + width e) start sign_after after (tail_from next) (tail_segment next all p q) (omega arith)))
      (omega arith) (omega (arith, q, size)) (inl (omega arith)))

  -- the sign is as long as the whole where it is the last
  sign_stands : (right : Option Ty) (others : Members) → others ≡ rest → start ≤ sign → after ≡ sign + length (spell_members (more operator at e rest)) → Stands (is_end others) start after (sign_at right)
  sign_stands right end r p q = (refl, omega (arith, q, width_members operator at e rest, ap (λ (m : Members). length (spell_members m)) r))
  sign_stands right (more another pos operand others) r p q = (
    omega arith,
    omega (arith, q, width_members operator at e rest),
    inr (omega (arith, q, width_members operator at e rest, ap (λ (m : Members). length (spell_members m)) r, width_members another pos operand others)),
  )

  sign_found : (right : Ty) → is_implication (Some g) ≡ false → IsExpr e → AreOf rest g → start ≤ sign → after ≡ sign + length (spell_members (more operator at e rest)) → type_in env wanted e ≡ Some right
      → Silent (expr_nodes env (suc sign) e) → takes_by (rule_of operator) left right ≡ false
      → Found (run_nodes env (Some g) start sign wanted (Some left) after (more operator at e rest)) start after (breach (rule_of operator) at (is_end rest))
  sign_found right i x all p q r silent h =
      let next = left_of_next (Some g) (Some left) (Some right) in
      let one = sign_at (Some right) in
      let here : Found (one ∷ []) start after (breach (rule_of operator) at (is_end rest)) =
      found_one start after one (rule_of operator) at (is_end rest) (sign_broken env (Some left) operator at (Some right) (known_both (rule_of operator) left right ∙ h))
      (sign_lowest env (Some left) operator at (Some right) start sign_after) refl (sign_stands (Some right) rest refl p q) in
      subst (λ (nodes : List Occurrence). Found nodes start after (breach (rule_of operator) at (is_end rest))) (sym (seen right next i r refl))
      (found_later start after (expr_nodes env (suc sign) e) (one ∷ tail_from next) (breach (rule_of operator) at (is_end rest)) silent
      (found_before start after start sign sign_after (one ∷ []) (tail_from next) (breach (rule_of operator) at (is_end rest)) here (alone start sign sign_after one (record { begins = omega arith; behind = omega arith; ends = omega arith }))
      (tail_beyond next all p q)))

  -- what is found behind the sign
  later_found : (right next : Ty) (broken : Breach) → is_implication (Some g) ≡ false → type_in env wanted e ≡ Some right → left_of_next (Some g) (Some left) (Some right) ≡ Some next → Silent (expr_nodes env (suc sign) e) → takes_by (rule_of operator) left right ≡ true
      → Found (tail_from (Some next)) start after broken → Found (run_nodes env (Some g) start sign wanted (Some left) after (more operator at e rest)) start after broken
  later_found right next broken i r l silent h found =
      subst (λ (nodes : List Occurrence). Found nodes start after broken) (sym (seen right (Some next) i r l))
      (found_later start after (expr_nodes env (suc sign) e) (sign_at (Some right) ∷ tail_from (Some next)) broken silent
      (found_later start after (sign_at (Some right) ∷ []) (tail_from (Some next)) broken (silent_one _ (sign_only env (Some left) operator at (Some right) start sign_after (known_both (rule_of operator) left right ∙ h))) found))

  later_silent : (right next : Ty) → is_implication (Some g) ≡ false → type_in env wanted e ≡ Some right → left_of_next (Some g) (Some left) (Some right) ≡ Some next → Silent (expr_nodes env (suc sign) e) → takes_by (rule_of operator) left right ≡ true
      → Silent (tail_from (Some next)) → Silent (run_nodes env (Some g) start sign wanted (Some left) after (more operator at e rest))
  later_silent right next i r l silent h tail =
      subst Silent (sym (seen right (Some next) i r l))
      (silent_both (expr_nodes env (suc sign) e) (sign_at (Some right) ∷ tail_from (Some next)) silent
      (silent_then (sign_at (Some right)) (tail_from (Some next)) (sign_only env (Some left) operator at (Some right) start sign_after (known_both (rule_of operator) left right ∙ h)) tail))

-- ---- what the rest knows

knows_counted : (env : Environment) (wanted : Option Ty) (left : Ty) (known : Option Ty) (rest : Members) → Knows env wanted left known rest → counted_of wanted ≡ wanted
knows_counted env wanted left None rest k = k.1
knows_counted env wanted left (Some ty) rest k = k.1

opens_more : (env : Environment) (operator : BinaryOperator) (at : Pos) (e : Expr) (rest : Members) (o : Option Typed) (others : Option Ty) → Looked env e o → are_open rest ≡ not (is_some others) → are_open (more operator at e rest) ≡ not (is_some (or_side (type_of_operand o) others))
opens_more env operator at e rest None others v p = rw v p
opens_more env operator at e rest (Some t) others v p = rw (v.0) refl

no_literal : (wanted : Option Ty) → is_truth (literal_type wanted) ≡ true → ⊥
no_literal wanted p = let wrong : true ≡ false = sym p ∙ integer_no_truth (literal_type wanted) (literal_integer wanted) in cc

truth_row : (wanted : Option Ty) (o : Option Typed) → is_truth (right_type wanted o) ≡ true → type_of_operand o ≡ Some types.Bool
truth_row wanted None p = absurd (no_literal wanted p)
truth_row wanted (Some t) p = ap Some (truth_equal t.ty p)

pub later_good : (value : Literal → ℤ) (env : Environment) (g : Group) (wanted : Option Ty) (left : Ty) (known : Option Ty) (operator : BinaryOperator) (at : Pos) (e : Expr) (rest : Members) (o : Option Typed) (rows : List Row)
    → rule_in g (rule_of operator) ≡ true → IsExpr e → Holds value e → Looked env e o → Knows env wanted left known (more operator at e rest) → takes_by (rule_of operator) left (right_type wanted o) ≡ true
    → (next : Next env g wanted left known e o rest) → RowsGood value env g (wanted_behind env wanted e) next.0 (left_behind (Some g) known (type_of_operand o)) rest rows
    → RowsGood value env g wanted left known (more operator at e rest) (record { operator = operator; pos = at; operand = e; typed = o } ∷ rows)
later_good value env g wanted left known operator at e rest o rows i x h v k taken next good =
    let rule = rule_of operator in
    let of = type_of_run (or_side known (or_side (type_of_operand o) (first_type rows))) in
    let same : type_of_run (or_side (left_behind (Some g) known (type_of_operand o)) (first_type rows)) ≡ of = next.4 (first_type rows) in
    let counts : counted left ≡ of = next.2 ∙ good.0 ∙ same in
    let sides = takes_same rule left (right_type wanted o) taken in
    let (source, inner, elaborates, counting, conversion) = operand_good value env wanted of e o x h v (knows_counted env wanted left known (more operator at e rest) k) (sym sides ∙ counts) in (
      counts,
      (source, inner, settled_by value of e o, all_settled_by value of rows, elaborates, counting, conversion, subst (λ (ty : Ty). AreOperands env (wanted_behind env wanted e) ty rest (all_settled_by value ty rows)) same good.1, refl),
      (subst (λ (ty : Ty). FitBy rule ty) counts (taken_fits rule left (right_type wanted o) taken), subst (λ (ty : Ty). AllFit ty rest) same good.2),
      opens_more env operator at e rest o (first_type rows) v good.3,
      λ s. (truth_row wanted o (and_parts (is_truth left) (is_truth (right_type wanted o)) (subst (λ (r : Own). takes_by r left (right_type wanted o) ≡ true) (logical_rule_in g rule s i) taken)).1, good.4 s),
    )

-- ---- sums that break a rule as a whole have no type

integer_sum : (ty : Ty) → is_integer ty ≡ true → arithmetic (Some ty) (Some ty) ≡ Some (counted ty)
integer_sum ty p = rw (one_integer ty ty p p refl) refl

counted_sum : (ty : Ty) → is_integer ty ≡ true → arithmetic (Some (counted ty)) (Some (counted ty)) ≡ Some (counted ty)
counted_sum ty p = integer_sum (counted ty) (counted_integer ty ∙ p) ∙ ap Some (counted_twice ty)

sum_step : (env : Environment) (wanted : Option Ty) (left : Ty) (known : Option Ty) (operator : BinaryOperator) (at : Pos) (e : Expr) (rest : Members) (o : Option Typed) → IsExpr e → Looked env e o → Knows env wanted left known (more operator at e rest)
    → are_one_integer left (right_type wanted o) ≡ true → sum_of known (own_types env (more operator at e rest)) ≡ sum_of (counted_of (or_side known (type_of_operand o))) (own_types env rest)
sum_step env wanted left None operator at e rest None g v k h = ap common_type (open_first env operator at e rest v)
sum_step env wanted left None operator at e rest (Some t) g v k h =
    let integer = (one_integer_parts left t.ty h).1 in
    ap common_type (closed_first env operator at e rest t g v)
    ∙ ap (λ (o : Option Ty). arithmetic_all o (own_types env rest)) (integer_sum t.ty integer ∙ sym (counted_sum t.ty integer))
sum_step env wanted left (Some ty) operator at e rest None g v k h =
    let integer : is_integer ty ≡ true = subst (λ (x : Ty). is_integer x ≡ true) k.0 (one_integer_parts left (literal_type wanted) h).0 in
    ap (arithmetic_all (arithmetic (Some ty) (Some ty))) (open_first env operator at e rest v)
    ∙ ap (λ (o : Option Ty). arithmetic_all o (own_types env rest)) (integer_sum ty integer ∙ sym (counted_sum ty integer))
sum_step env wanted left (Some ty) operator at e rest (Some t) g v k h =
    let both = one_integer_parts ty t.ty (subst (λ (x : Ty). are_one_integer x t.ty ≡ true) k.0 h) in
    let next : arithmetic (Some (counted ty)) (Some t.ty) ≡ Some (counted ty) =
    rw (one_integer (counted ty) t.ty (counted_integer ty ∙ both.0) both.1 (counted_twice ty ∙ both.2)) (ap Some (counted_twice ty)) in
    ap (arithmetic_all (arithmetic (Some ty) (Some ty))) (closed_first env operator at e rest t g v)
    ∙ ap (λ (o : Option Ty). arithmetic_all o (own_types env rest)) (ap (λ (o : Option Ty). arithmetic o (Some t.ty)) (integer_sum ty both.0) ∙ next ∙ sym (counted_sum ty both.0))

no_sum : (ty : Ty) → is_integer ty ≡ false → arithmetic (Some ty) (Some ty) ≡ None
no_sum ty p = rw p refl

not_taken : {A : Type 0} (b : Bool) → b ≡ true → b ≡ false → A
not_taken b p q = let wrong : true ≡ false = sym p ∙ q in absurd cc

no_rest : (env : Environment) (rest : Members) → is_end rest ≡ true → own_types env rest ≡ []
no_rest env end p = refl
no_rest env (more operator at e rest) p = absurd cc

counted_same : (left right : Ty) → are_one_integer (counted left) right ≡ are_one_integer left right
counted_same left right = rw (counted_integer left, counted_twice left) refl

refused_pair : (ty : Ty) (b : Bool) → is_integer ty ≡ b → (b ≡ true → are_one_integer (counted ty) ty ≡ false) → arithmetic (Some ty) (Some ty) ≡ None
refused_pair ty true p h = not_taken (are_one_integer (counted ty) ty) (one_integer (counted ty) ty (counted_integer ty ∙ p) p (counted_twice ty)) (h refl)
refused_pair ty false p h = no_sum ty p

refused_three : (ty right : Ty) (b : Bool) → is_integer ty ≡ b → are_one_integer ty right ≡ false → arithmetic (arithmetic (Some ty) (Some ty)) (Some right) ≡ None
refused_three ty right true p h = ap (λ (o : Option Ty). arithmetic o (Some right)) (integer_sum ty p) ∙ (rw (counted_same ty right, h) refl)
refused_three ty right false p h = ap (λ (o : Option Ty). arithmetic o (Some right)) (no_sum ty p)

sum_refused : (env : Environment) (wanted : Option Ty) (left : Ty) (known : Option Ty) (operator : BinaryOperator) (at : Pos) (e : Expr) (rest : Members) (o : Option Typed) → IsExpr e → Looked env e o → Knows env wanted left known (more operator at e rest)
    → own_types env rest ≡ [] → are_one_integer left (right_type wanted o) ≡ false → sum_of known (own_types env (more operator at e rest)) ≡ None
sum_refused env wanted left None operator at e rest None g v (p, q, r) n h =
    not_taken (are_one_integer (literal_type wanted) (literal_type wanted)) (one_integer (literal_type wanted) (literal_type wanted) (literal_integer wanted) (literal_integer wanted) refl) (subst (λ (ty : Ty). are_one_integer ty (literal_type wanted) ≡ false) p h)
sum_refused env wanted left None operator at e rest (Some t) g v (p, q, r) n h =
    let same : wanted ≡ Some (counted t.ty) = r ∙ ap (first_or None) (closed_first env operator at e rest t g v) in
    ap common_type (closed_first env operator at e rest t g v ∙ ap (λ (all : List (Option Ty)). Some t.ty ∷ all) n)
    ∙ refused_pair t.ty (is_integer t.ty) refl
    (λ integer. subst (λ (ty : Ty). are_one_integer ty t.ty ≡ false) (p ∙ ap literal_type same ∙ literal_of_integer (counted t.ty) (counted_integer t.ty ∙ integer)) h)
sum_refused env wanted left (Some ty) operator at e rest None g v (p, q, r) n h =
    ap (arithmetic_all (arithmetic (Some ty) (Some ty))) (open_first env operator at e rest v ∙ n)
    ∙ refused_pair ty (is_integer ty) refl
    (λ integer. swapped (counted ty) ty (subst (λ (x : Ty). are_one_integer x (counted ty) ≡ false) p (subst (λ (x : Ty). are_one_integer left x ≡ false) (r ∙ literal_of_integer (counted ty) (counted_integer ty ∙ integer)) h))) where
      swapped : (one other : Ty) → are_one_integer other one ≡ false → are_one_integer one other ≡ false
      swapped one other h = by_cases (are_one_integer one other) refl where
        by_cases : (b : Bool) → are_one_integer one other ≡ b → are_one_integer one other ≡ false
        by_cases true t =
            let parts = one_integer_parts one other t in
            not_taken (are_one_integer other one) (one_integer other one parts.1 parts.0 (sym parts.2)) h
        by_cases false t = t
sum_refused env wanted left (Some ty) operator at e rest (Some t) g v (p, q, r) n h =
    ap (arithmetic_all (arithmetic (Some ty) (Some ty))) (closed_first env operator at e rest t g v ∙ ap (λ (all : List (Option Ty)). Some t.ty ∷ all) n)
    ∙ refused_three ty t.ty (is_integer ty) refl (subst (λ (x : Ty). are_one_integer x t.ty ≡ false) p h)

-- ---- the step

sign_so : (env : Environment) (g : Group) (wanted : Option Ty) (left : Ty) (known : Option Ty) (operator : BinaryOperator) (at : Pos) (e : Expr) (rest : Members) (o : Option Typed) (b : Bool) → is_implication (Some g) ≡ false → IsExpr e → Looked env e o
    → Knows env wanted left known (more operator at e rest) → takes_by (rule_of operator) left (right_type wanted o) ≡ b → sign_holds (Some g) operator known (type_of_operand o) ≡ b
sign_so env g wanted left known operator at e rest o b i x v k h = rw i (sides_same env wanted left known operator at e rest o (rule_of operator) x v k ∙ h)

with_rows : (value : Literal → ℤ) (env : Environment) (g : Group) (start sign : ℕ) (wanted : Option Ty) (left : Ty) (known : Option Ty) (after : ℕ) (operator : BinaryOperator) (at : Pos) (e : Expr) (rest : Members) (o : Option Typed) (answer : Answer (List Row))
    → is_implication (Some g) ≡ false → rule_in g (rule_of operator) ≡ true → IsExpr e → Holds value e → Looked env e o → Knows env wanted left known (more operator at e rest) → takes_by (rule_of operator) left (right_type wanted o) ≡ true
    → (next : Next env g wanted left known e o rest)
    → RowsVerdict value env g start (sign + 1 + width e) (wanted_behind env wanted e) next.0 (left_behind (Some g) known (type_of_operand o)) after rest answer
    → RowsVerdict value env g start sign wanted left known after (more operator at e rest) (with_row (record { operator = operator; pos = at; operand = e; typed = o }) answer)
with_rows value env g start sign wanted left known after operator at e rest o (Ok rows) i r x h v k taken next verdict =
    let known_right = right_known env wanted e o (knows_counted env wanted left known (more operator at e rest) k) x v in (
      later_good value env g wanted left known operator at e rest o rows r x h v k taken next verdict.0,
      later_silent value env g start sign wanted left known after operator at e rest (right_type wanted o) next.0 i known_right next.1 (looked_silent env (suc sign) e o x v) taken verdict.1,
    )
with_rows value env g start sign wanted left known after operator at e rest o (Err broken) i r x h v k taken next verdict =
    let known_right = right_known env wanted e o (knows_counted env wanted left known (more operator at e rest) k) x v in (
      later_found value env g start sign wanted left known after operator at e rest (right_type wanted o) next.0 broken i known_right next.1 (looked_silent env (suc sign) e o x v) taken verdict.0,
      λ w s.
          let integers : are_one_integer left (right_type wanted o) ≡ true = subst (λ (rule : Own). takes_by rule left (right_type wanted o) ≡ true) (sum_rule g (rule_of operator) s r) taken in
          sum_step env wanted left known operator at e rest o x v k integers
          ∙ ap (λ (l : Option Ty). sum_of l (own_types env rest)) (sym (sum_behind g known (type_of_operand o) s)) ∙ verdict.1 w s,
      verdict.2,
    )

looked_row : (value : Literal → ℤ) (env : Environment) (g : Group) (start sign : ℕ) (wanted : Option Ty) (left : Ty) (known : Option Ty) (after : ℕ) (operator : BinaryOperator) (at : Pos) (e : Expr) (rest : Members) (o : Option Typed)
    → is_implication (Some g) ≡ false → rule_in g (rule_of operator) ≡ true → IsExpr e → AreOf rest g → Holds value e → start ≤ sign → after ≡ sign + length (spell_members (more operator at e rest)) → Knows env wanted left known (more operator at e rest) → Looked env e o
    → ((wanted : Option Ty) (left : Ty) (known : Option Ty) → Knows env wanted left known rest → RowsVerdict value env g start (sign + 1 + width e) wanted left known after rest (rows_by value env (Some g) known rest))
    → RowsVerdict value env g start sign wanted left known after (more operator at e rest)
    (and_then (signed (Some g) operator at known (type_of_operand o) (is_end rest)) (λ (done : Unit {0}).
    with_row (record { operator = operator; pos = at; operand = e; typed = o }) (rows_by value env (Some g) (left_behind (Some g) known (type_of_operand o)) rest)))
looked_row value env g start sign wanted left known after operator at e rest o i r x all h p q k v rec = by_cases (takes_by (rule_of operator) left (right_type wanted o)) refl where
  by_cases : (b : Bool) → takes_by (rule_of operator) left (right_type wanted o) ≡ b → RowsVerdict value env g start sign wanted left known after (more operator at e rest)
      (and_then (signed (Some g) operator at known (type_of_operand o) (is_end rest)) (λ (done : Unit {0}).
      with_row (record { operator = operator; pos = at; operand = e; typed = o }) (rows_by value env (Some g) (left_behind (Some g) known (type_of_operand o)) rest)))
  by_cases true taken =
      let next = next_known env g wanted left known operator at e rest o (rule_of operator) r x v k taken in
      rw (sign_so env g wanted left known operator at e rest o true i x v k taken)
      (with_rows value env g start sign wanted left known after operator at e rest o (rows_by value env (Some g) (left_behind (Some g) known (type_of_operand o)) rest) i r x h v k taken next
      (rec (wanted_behind env wanted e) next.0 (left_behind (Some g) known (type_of_operand o)) next.3))
  by_cases false taken =
      rw (sign_so env g wanted left known operator at e rest o false i x v k taken) (
        sign_found value env g start sign wanted left known after operator at e rest (right_type wanted o) i x all p q (right_known env wanted e o (knows_counted env wanted left known (more operator at e rest) k) x v) (looked_silent env (suc sign) e o x v) taken,
        λ w s. sum_refused env wanted left known operator at e rest o x v k (no_rest env rest w)
            (subst (λ (rule : Own). takes_by rule left (right_type wanted o) ≡ false) (sum_rule g (rule_of operator) s r) taken),
        λ w. r,
      )

pub row_judged : (value : Literal → ℤ) (env : Environment) (g : Group) (start sign : ℕ) (wanted : Option Ty) (left : Ty) (known : Option Ty) (after : ℕ) (operator : BinaryOperator) (at : Pos) (e : Expr) (rest : Members) (answer : Answer (Option Typed))
    → is_implication (Some g) ≡ false → rule_in g (rule_of operator) ≡ true → IsExpr e → AreOf rest g → Holds value e → start ≤ sign → after ≡ sign + length (spell_members (more operator at e rest)) → Knows env wanted left known (more operator at e rest) → Verdict env (suc sign) e answer
    → ((wanted : Option Ty) (left : Ty) (known : Option Ty) → Knows env wanted left known rest → RowsVerdict value env g start (sign + 1 + width e) wanted left known after rest (rows_by value env (Some g) known rest))
    → RowsVerdict value env g start sign wanted left known after (more operator at e rest)
    (and_then (inside answer) (λ (o : Option Typed).
    and_then (signed (Some g) operator at known (type_of_operand o) (is_end rest)) (λ (done : Unit {0}).
    with_row (record { operator = operator; pos = at; operand = e; typed = o }) (rows_by value env (Some g) (left_behind (Some g) known (type_of_operand o)) rest))))
row_judged value env g start sign wanted left known after operator at e rest (Ok o) i r x all h p q k v rec = looked_row value env g start sign wanted left known after operator at e rest o i r x all h p q k v rec
row_judged value env g start sign wanted left known after operator at e rest (Err broken) i r x all h p q k v rec =
    (operand_broken value env g start sign wanted left known after operator at e rest broken i x all p q v.0, λ w. absurd cc, λ w. absurd cc)
