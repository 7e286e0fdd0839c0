-- The walk over implications, which hold to the right, is right.
use Rattle.std.proofs.Common.{◌≡◌, ℕ, ℤ, suc, ◌+◌, ◌<◌, ◌≤◌, Bool, true, false, not, ◌&&◌, ◌||◌, List, [], ◌∷◌, ◌++◌, length, Option, Some, None, Ok, Err, refl, sym, ◌∙◌, subst, inl, inr, arith, append_assoc}
use Rattle.std.specs.Prelude.{if◌then◌else◌}
use Rattle.std.proofs.lemmas.Bool.{and_parts}
use Rattle.df_base.specs.declared.pos.Pos.{Pos}
use Rattle.df_lang.specs.declared.ty.Ty.{Ty}
use Rattle.df_lang.specs.declared.ty.Ty.TheVariants as types
use Rattle.df_lang.specs.Expr as typed
use Rattle.df_ntree.specs.declared.tree.Literal.{Literal}
use Rattle.df_ntree.specs.declared.expr.BinaryOperator.{BinaryOperator}
use Rattle.df_ntree.specs.declared.expr.Group.TheVariants as groups
use Rattle.df_ntree.specs.Operator.{group_of}
use Rattle.df_ntree.specs.Expr.{Expr, Members, end, more}
use Rattle.df_ntree.specs.ExprSpelling.{spell_members, IsExpr, AreOf}
use Rattle.df_ntyping.specs.Types.{if_type_known}
use Rattle.df_ntyping.specs.Environment.{Environment}
use Rattle.df_ntyping.specs.ExprTypes.{open_type, type_in, wanted_behind}
use Rattle.df_ntyping.specs.ExprNodes.{width, occurrence, right_of_last, expr_nodes, run_nodes}
use Rattle.df_ntyping.specs.ExprElaboration.{Converts, Elaborates, AreOperands}
use Rattle.df_ntyping.specs.Node as nodes
use Rattle.df_ntyping.specs.Node.{Occurrence}
use Rattle.df_ntyping.specs.Breaks.{breaks}
use Rattle.df_ntyping.specs.Rule.{Typing, stage_of}
use Rattle.df_ntyping.specs.rules.Truths.{is_truth}
use Rattle.df_ntyping.proofs.Order.{Segment}
use Rattle.df_ntyping.proofs.ExprOrder.{expr_order, run_order, width_members}
use Rattle.df_ntyping.proofs.Types.{one_type}
use Rattle.df_ntyping.specs.Rule.{TypingRule as Own}
use Rattle.df_ntyping.specs.Rule as own
use Rattle.df_ntyping.specs.mirror.Parts.{Breach}
use Rattle.df_ntyping.specs.mirror.Parts.{Typed, Row, Answer, and_then, inside, breach, type_of_operand}
use Rattle.df_ntyping.specs.mirror.Signs.{rule_of, is_truth_side, is_last, or_breach, wrong_at, is_end, settled_by, all_settled_by}
use Rattle.df_ntyping.specs.mirror.Looking.{signed, with_row}
use Rattle.df_ntyping.proofs.FirstFault.{Silent, Only, is_lower, silent_none, silent_one, silent_both}
use Rattle.df_ntyping.proofs.Breaking.{takes_known, sign_only, sign_lowest, sign_broken}
use Rattle.df_ntyping.proofs.MeetingTypes.{truth_equal, integer_no_truth}
use Rattle.df_ntyping.proofs.OpenExprs.{any_expected}
use Rattle.df_ntyping.proofs.Silent.{open_integer}
use Rattle.df_ntyping.proofs.Fitting.{group_rule, logical_rule_in}
use Rattle.df_ntyping.proofs.Standing.{converts_there}
use Rattle.df_ntyping.proofs.Found.{Stands, Found, AllBeyond, beyond_one, beyond_both, beyond_segment, found_between, found_later, found_before, found_one}
use Rattle.df_ntyping.proofs.Verdict.{Looked, Verdict, looked_silent}

-- ---- the operands

abbrev pub AllLooked : Environment → Members → List Row → Type 0
AllLooked env end [] = Unit {0}
AllLooked env end (row ∷ rows) = ⊥
AllLooked env (more operator at e rest) [] = ⊥
AllLooked env (more operator at e rest) (row ∷ rows) = (row.operator ≡ operator) × (row.pos ≡ at) × (row.operand ≡ e) × Looked env e row.typed × AllLooked env rest rows

abbrev pub LookedVerdict : Environment → (start sign : ℕ) → Option Ty → Option Ty → ℕ → Members → Answer (List Row) → Type 0
LookedVerdict env start sign wanted left after rest (Ok rows) = AllLooked env rest rows
LookedVerdict env start sign wanted left after rest (Err broken) = Found (run_nodes env (Some groups.Implication) start sign wanted left after rest) start after broken × (broken.is_whole ≡ false)

abbrev arrow_at : Environment → ℕ → ℕ → Option Ty → BinaryOperator → Pos → Option Ty → Occurrence
arrow_at env start after left operator at right = occurrence env (nodes.Sign left operator at right) start after

pub no_operands : (env : Environment) (start sign : ℕ) (wanted left : Option Ty) (after : ℕ) → LookedVerdict env start sign wanted left after end (Ok [])
no_operands env start sign wanted left after = tt

with_operand : (env : Environment) (start sign : ℕ) (wanted left : Option Ty) (after : ℕ) (operator : BinaryOperator) (at : Pos) (e : Expr) (rest : Members) (o : Option Typed) (answer : Answer (List Row)) → IsExpr e → AreOf rest groups.Implication → start ≤ sign
    → after ≡ sign + length (spell_members (more operator at e rest)) → Looked env e o → LookedVerdict env (suc sign) (sign + 1 + width e) None (type_in env None e) after rest answer
    → LookedVerdict env start sign wanted left after (more operator at e rest) (with_row (record { operator = operator; pos = at; operand = e; typed = o }) answer)
with_operand env start sign wanted left after operator at e rest o (Ok rows) x all p q v w = (refl, refl, refl, v, w)
with_operand env start sign wanted left after operator at e rest o (Err broken) x all p q v w =
    let middle = sign + 1 + width e in
    let right = type_in env None e in
    let xs = expr_nodes env (suc sign) e in
    let ys = run_nodes env (Some groups.Implication) (suc sign) middle None right after rest in
    let one = arrow_at env start after left operator at (right_of_last rest right) in
    let size = width_members operator at e rest in
    let segment : Segment (suc sign) middle after ys = run_order env (Some groups.Implication) (suc sign) middle None right after rest groups.Implication all (omega arith) (omega (arith, q, size)) in
    let inner = found_between start after (suc sign) middle after (suc sign) after xs ys (one ∷ []) broken (looked_silent env (suc sign) e o x v) w.0 segment (beyond_one (suc sign) after one (inr (omega arith, omega arith)))
    (omega arith) (omega arith) (inl (omega arith)) in (
      subst (λ (b : Bool). Found (xs ++ ys ++ one ∷ []) start after (breach broken.rule broken.pos b)) (sym w.1)
          (subst (λ (all : List Occurrence). Found all start after (breach broken.rule broken.pos false)) (sym (append_assoc xs ys (one ∷ []))) inner),
      w.1,
    )

pub operand_judged : (env : Environment) (start sign : ℕ) (wanted left known : Option Ty) (after : ℕ) (operator : BinaryOperator) (at : Pos) (e : Expr) (rest : Members) (answer : Answer (Option Typed)) (others : Option Typed → Answer (List Row))
    → IsExpr e → AreOf rest groups.Implication → start ≤ sign → after ≡ sign + length (spell_members (more operator at e rest)) → Verdict env (suc sign) e answer
    → ((o : Option Typed) → LookedVerdict env (suc sign) (sign + 1 + width e) None (type_in env None e) after rest (others o))
    → LookedVerdict env start sign wanted left after (more operator at e rest)
    (and_then (inside answer) (λ (o : Option Typed).
    and_then (signed (Some groups.Implication) operator at known (type_of_operand o) (is_end rest)) (λ (done : Unit {0}).
    with_row (record { operator = operator; pos = at; operand = e; typed = o }) (others o))))
operand_judged env start sign wanted left known after operator at e rest (Ok o) others x all p q v w = with_operand env start sign wanted left after operator at e rest o (others o) x all p q v (w o)
operand_judged env start sign wanted left known after operator at e rest (Err broken) others x all p q v w =
    let middle = sign + 1 + width e in
    let right = type_in env None e in
    let xs = expr_nodes env (suc sign) e in
    let ys = run_nodes env (Some groups.Implication) (suc sign) middle None right after rest in
    let one = arrow_at env start after left operator at (right_of_last rest right) in
    let size = width_members operator at e rest in
    let segment : Segment (suc sign) middle after ys = run_order env (Some groups.Implication) (suc sign) middle None right after rest groups.Implication all (omega arith) (omega (arith, q, size)) in
    let beyond : AllBeyond (suc sign) (suc sign + width e) (ys ++ one ∷ []) =
    beyond_both (suc sign) (suc sign + width e) ys (one ∷ []) (beyond_segment (suc sign) (suc sign + width e) (suc sign) middle after ys segment (omega arith))
    (beyond_one (suc sign) (suc sign + width e) one (inr (omega (arith, q, size), omega arith))) in
    let inner = found_between start after (suc sign) (suc sign) (suc sign + width e) (suc sign) (suc sign + width e) [] xs (ys ++ one ∷ []) broken silent_none v.0 (expr_order env (suc sign) e x) beyond
    (omega arith) (omega (arith, q, size)) (inl (omega arith)) in
    (subst (λ (all : List Occurrence). Found all start after (breach broken.rule broken.pos false)) (sym (append_assoc xs ys (one ∷ []))) inner, refl)

-- ---- the signs

-- what the walk has on a side, and what the definitions have there
abbrev pub SameTruth : Option Ty → Option Ty → Type 0
SameTruth known seen = if_type_known is_truth seen ≡ is_truth_side known

pub operand_truth : (env : Environment) (wanted : Option Ty) (e : Expr) (o : Option Typed) → IsExpr e → Looked env e o → SameTruth (type_of_operand o) (type_in env wanted e)
operand_truth env wanted e None x v = rw v (integer_no_truth (open_type wanted e) (open_integer wanted e))
operand_truth env wanted e (Some t) x v = rw (one_type env wanted e t.ty t.expr x (any_expected env None wanted e t.ty t.expr v.0 v.1)) refl

-- where the first sign begins
abbrev pub Begins : Bool → ℕ → ℕ → Type 0
Begins true low start = low ≡ start
Begins false low start = low < start

abbrev pub SignsVerdict : (Literal → ℤ) → Environment → Bool → (low start sign : ℕ) → Option Ty → Option Ty → Option Ty → ℕ → Members → List Row → Option Breach → Type 0
SignsVerdict value env is_first low start sign wanted left known after rest rows None =
    Silent (run_nodes env (Some groups.Implication) start sign wanted left after rest) × ((other : Option Ty) → AreOperands env other types.Bool rest (all_settled_by value types.Bool rows))
    × (is_last rows ≡ false → is_truth_side known ≡ true)
SignsVerdict value env is_first low start sign wanted left known after rest rows (Some broken) = Found (run_nodes env (Some groups.Implication) start sign wanted left after rest) low after broken

right_truth : (rest : Members) (rows : List Row) (env : Environment) (known seen : Option Ty) → AllLooked env rest rows → SameTruth known seen → if_type_known is_truth (right_of_last rest seen) ≡ (is_truth_side known || not (is_last rows))
right_truth end [] env known seen a s = s ∙ or_nothing (is_truth_side known) where
  or_nothing : (b : Bool) → b ≡ (b || false)
  or_nothing true = refl
  or_nothing false = refl
right_truth end (row ∷ rows) env known seen a s = absurd a
right_truth (more operator at e rest) [] env known seen a s = absurd a
right_truth (more operator at e rest) (row ∷ rows) env known seen a s = or_all (is_truth_side known) where
  or_all : (b : Bool) → true ≡ (b || true)
  or_all true = refl
  or_all false = refl

arrow_rule : (operator : BinaryOperator) → group_of operator ≡ groups.Implication → rule_of operator ≡ own.Truths
arrow_rule operator p = logical_rule_in groups.Implication (rule_of operator) refl (group_rule groups.Implication operator p)

arrow_takes : (operator : BinaryOperator) (left right : Option Ty) (b : Bool) → group_of operator ≡ groups.Implication → (if_type_known is_truth left && if_type_known is_truth right) ≡ b → takes_known (rule_of operator) left right ≡ b
arrow_takes operator left right b p h = subst (λ (rule : Own). takes_known rule left right ≡ b) (sym (arrow_rule operator p)) h

pub truth_operand : (value : Literal → ℤ) (env : Environment) (other : Option Ty) (e : Expr) (o : Option Typed) → IsExpr e → Looked env e o → is_truth_side (type_of_operand o) ≡ true
    → (inner : typed.Expr) × Elaborates env other e types.Bool inner × Converts types.Bool types.Bool e inner (settled_by value types.Bool e o)
truth_operand value env other e None x v p = absurd cc
truth_operand value env other e (Some t) x v p =
    let bool : t.ty ≡ types.Bool = truth_equal t.ty p in (
      t.expr,
      subst (λ (ty : Ty). Elaborates env other e ty t.expr) bool (any_expected env None other e t.ty t.expr v.0 v.1),
      subst (λ (ty : Ty). Converts ty types.Bool e t.expr (settled_by value types.Bool e (Some t))) bool (converts_there types.Bool e t x),
    )

all_operands : (value : Literal → ℤ) (env : Environment) (operator : BinaryOperator) (at : Pos) (e : Expr) (rest : Members) (row : Row) (rows : List Row) → IsExpr e → AllLooked env (more operator at e rest) (row ∷ rows) → is_truth_side (type_of_operand row.typed) ≡ true
    → ((other : Option Ty) → AreOperands env other types.Bool rest (all_settled_by value types.Bool rows)) → (other : Option Ty) → AreOperands env other types.Bool (more operator at e rest) (all_settled_by value types.Bool (row ∷ rows))
all_operands value env operator at e rest row rows x (a, b, c, v, l) p others other =
    let (inner, elaborates, conversion) = truth_operand value env other e row.typed x v p in (
      types.Bool,
      inner,
      settled_by value types.Bool e row.typed,
      all_settled_by value types.Bool rows,
      elaborates,
      refl,
      conversion,
      others (wanted_behind env other e),
      λ i. record { operator = a i; pos = b i; operand = settled_by value types.Bool (c i) row.typed } ∷ all_settled_by value types.Bool rows,
    )

-- the right side is a truth where a further sign asks that, or it is the last
right_is : (known : Option Ty) (rows : List Row) → (is_last rows ≡ false → is_truth_side known ≡ true) → (is_truth_side known || not (is_last rows)) ≡ true → is_truth_side known ≡ true
right_is known [] h p = or_false (is_truth_side known) p where
  or_false : (b : Bool) → (b || false) ≡ true → b ≡ true
  or_false true q = refl
  or_false false q = q
right_is known (row ∷ rows) h p = h refl

begins_later : (is_first : Bool) (low start sign : ℕ) → Begins is_first low start → start ≤ sign → low < suc sign
begins_later true low start sign p q = omega (arith, p)
begins_later false low start sign p q = omega arith

arrow_stands : (env : Environment) (is_first : Bool) (low start after : ℕ) (left right : Option Ty) (operator : BinaryOperator) (at : Pos) → Begins is_first low start → Stands is_first low after (arrow_at env start after left operator at right)
arrow_stands env true low start after left right operator at p = (sym p, refl)
arrow_stands env false low start after left right operator at p = (omega arith, omega arith, inl p)

module _ (value : Literal → ℤ) (env : Environment) (is_first : Bool) (low start sign : ℕ) (wanted left known : Option Ty) (after : ℕ) (operator : BinaryOperator) (at : Pos) (e : Expr) (rest : Members) (row : Row) (rows : List Row) where
  abbrev middle : ℕ
  middle = sign + 1 + width e

  abbrev right_seen : Option Ty
  right_seen = type_in env None e

  abbrev inner_nodes : List Occurrence
  inner_nodes = run_nodes env (Some groups.Implication) (suc sign) middle None right_seen after rest

  abbrev arrow : Occurrence
  arrow = arrow_at env start after left operator at (right_of_last rest right_seen)

  sign_step : (later : Option Breach) → group_of operator ≡ groups.Implication → IsExpr e → AreOf rest groups.Implication → start ≤ sign → after ≡ sign + length (spell_members (more operator at e rest)) → Begins is_first low start
      → SameTruth known left → AllLooked env (more operator at e rest) (row ∷ rows) → SignsVerdict value env false low (suc sign) middle None right_seen (type_of_operand row.typed) after rest rows later
      → SignsVerdict value env is_first low start sign wanted left known after (more operator at e rest) (row ∷ rows)
      (or_breach later (if is_truth_side known && (is_truth_side (type_of_operand row.typed) || not (is_last rows)) then None else Some (breach own.Truths row.pos is_first)))
  sign_step (Some broken) o x all p q b s a verdict =
      let size = width_members operator at e rest in
      let segment : Segment (suc sign) middle after inner_nodes = run_order env (Some groups.Implication) (suc sign) middle None right_seen after rest groups.Implication all (omega arith) (omega (arith, q, size)) in
      subst (λ (nodes : List Occurrence). Found nodes low after broken) (sym (append_assoc (expr_nodes env (suc sign) e) inner_nodes (arrow ∷ [])))
      (found_later low after (expr_nodes env (suc sign) e) (inner_nodes ++ arrow ∷ []) broken (looked_silent env (suc sign) e row.typed x a.3)
      (found_before low after (suc sign) middle after inner_nodes (arrow ∷ []) broken verdict segment (beyond_one (suc sign) after arrow (inr (omega arith, omega arith)))))
  sign_step None o x all p q b s a verdict = by_truth (is_truth_side known && (is_truth_side (type_of_operand row.typed) || not (is_last rows))) refl where
    both : (if_type_known is_truth left && if_type_known is_truth (right_of_last rest right_seen)) ≡ (is_truth_side known && (is_truth_side (type_of_operand row.typed) || not (is_last rows)))
    both = rw (s, right_truth rest rows env (type_of_operand row.typed) right_seen a.4 (operand_truth env None e row.typed x a.3)) refl

    before : Silent (expr_nodes env (suc sign) e ++ inner_nodes)
    before = silent_both (expr_nodes env (suc sign) e) inner_nodes (looked_silent env (suc sign) e row.typed x a.3) verdict.0

    by_truth : (t : Bool) → (is_truth_side known && (is_truth_side (type_of_operand row.typed) || not (is_last rows))) ≡ t
        → SignsVerdict value env is_first low start sign wanted left known after (more operator at e rest) (row ∷ rows)
        (or_breach None (if is_truth_side known && (is_truth_side (type_of_operand row.typed) || not (is_last rows)) then None else Some (breach own.Truths row.pos is_first)))
    by_truth true t =
        let parts = and_parts (is_truth_side known) (is_truth_side (type_of_operand row.typed) || not (is_last rows)) t in
        rw t (
          silent_both (expr_nodes env (suc sign) e ++ inner_nodes) (arrow ∷ []) before
              (silent_one arrow (sign_only env left operator at (right_of_last rest right_seen) start after (arrow_takes operator left (right_of_last rest right_seen) true o (both ∙ t)))),
          all_operands value env operator at e rest row rows x a (right_is (type_of_operand row.typed) rows verdict.2 parts.1) verdict.1,
          λ n. parts.0,
        )
    by_truth false t =
        let here : Found (arrow ∷ []) low after (breach own.Truths at is_first) =
        found_one low after arrow own.Truths at is_first
        (subst (λ (rule : Own). breaks env (nodes.Sign left operator at (right_of_last rest right_seen)) (Typing rule) ≡ true) (arrow_rule operator o)
        (sign_broken env left operator at (right_of_last rest right_seen) (arrow_takes operator left (right_of_last rest right_seen) false o (both ∙ t))))
        (subst (λ (rule : Own). Only arrow (λ other. stage_of other ≡ 1 → is_lower other (Typing rule) ≡ false)) (arrow_rule operator o) (sign_lowest env left operator at (right_of_last rest right_seen) start after))
        refl (arrow_stands env is_first low start after left (right_of_last rest right_seen) operator at b) in
        rw t
        (subst (λ (pos : Pos). Found (expr_nodes env (suc sign) e ++ inner_nodes ++ arrow ∷ []) low after (breach own.Truths pos is_first)) (sym a.1)
        (found_later low after (expr_nodes env (suc sign) e ++ inner_nodes) (arrow ∷ []) (breach own.Truths at is_first) before here))

pub signs_judged : (value : Literal → ℤ) (env : Environment) (is_first : Bool) (low start sign : ℕ) (wanted left known : Option Ty) (after : ℕ) (rest : Members) (rows : List Row) → AreOf rest groups.Implication → start ≤ sign → after ≡ sign + length (spell_members rest)
    → Begins is_first low start → SameTruth known left → AllLooked env rest rows → SignsVerdict value env is_first low start sign wanted left known after rest rows (wrong_at is_first known rows)
signs_judged value env is_first low start sign wanted left known after end [] all p q b s a = (silent_none, λ other. refl, λ n. absurd cc)
signs_judged value env is_first low start sign wanted left known after end (row ∷ rows) all p q b s a = absurd a
signs_judged value env is_first low start sign wanted left known after (more operator at e rest) [] all p q b s a = absurd a
signs_judged value env is_first low start sign wanted left known after (more operator at e rest) (row ∷ rows) all p q b s a =
    let size = width_members operator at e rest in
    sign_step value env is_first low start sign wanted left known after operator at e rest row rows (wrong_at false (type_of_operand row.typed) rows) all.0 all.1 all.3 p q b s a
    (signs_judged value env false low (suc sign) (sign + 1 + width e) None (type_in env None e) (type_of_operand row.typed) after rest rows all.3 (omega arith) (omega (arith, q, size)) (begins_later is_first low start sign b p)
    (operand_truth env None e row.typed all.1 a.3) a.4)
