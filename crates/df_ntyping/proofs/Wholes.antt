-- Whole runs.
use Rattle.std.proofs.Common.{◌≡◌, ℕ, ℤ, ◌+◌, ◌<◌, ◌≤◌, Bool, true, false, not, ◌&&◌, List, [], ◌∷◌, ◌++◌, length, Option, Some, None, Ok, Err, refl, sym, ap, ◌∙◌, subst, ◌⊎◌, inl, inr, arith, append_assoc, append-nil}
use Rattle.std.specs.Prelude.{Contains, is_some, if◌then◌else◌}
use Rattle.std.proofs.lemmas.Bool.{cases_lt}
use Rattle.df_base.specs.declared.pos.Pos.{Pos}
use Rattle.df_lang.specs.declared.ty.Ty.{Ty}
use Rattle.df_lang.specs.declared.ty.Ty.TheVariants as types
use Rattle.df_lang.specs.Expr as typed
use Rattle.df_ntree.specs.declared.tree.Literal.{Literal}
use Rattle.df_ntree.specs.declared.expr.BinaryOperator.{BinaryOperator}
use Rattle.df_ntree.specs.declared.expr.BinaryOperator.TheVariants as binary
use Rattle.df_ntree.specs.declared.expr.Group.{Group}
use Rattle.df_ntree.specs.declared.expr.Group.TheVariants as groups
use Rattle.df_ntree.specs.declared.expr.Level.TheVariants as levels
use Rattle.df_ntree.specs.Operator.{group_of, level_of}
use Rattle.df_ntree.specs.Expr.{Expr, Operations, Leading, Members, end, more}
use Rattle.df_ntree.specs.ExprSpelling.{spell_members, first_group, IsExpr, AreOf}
use Rattle.df_ntyping.specs.Types.{counted, is_integer, literal_type, all_of, keeps_direction}
use Rattle.df_ntyping.specs.Environment.{Environment}
use Rattle.df_ntyping.specs.Places.{first_sign}
use Rattle.df_ntyping.specs.ExprTypes.{is_arithmetic, is_open, are_open, own_type, own_types, type_in, common_type, counted_of, first_or, wanted_first, wanted_behind}
use Rattle.df_ntyping.specs.ExprNodes.{width, occurrence, chain_nodes, expr_nodes, run_nodes}
use Rattle.df_ntyping.specs.ExprElaboration.{Part, Converts, compares, IsRun, IsLeading, Elaborates, AreOperands}
use Rattle.df_ntyping.specs.Node as nodes
use Rattle.df_ntyping.specs.Node.{Occurrence}
use Rattle.df_ntyping.specs.Rule.{Rule, Typing, Direction, stage_of}
use Rattle.df_ntyping.specs.Breaks.{breaks}
use Rattle.df_ntyping.specs.Least.{Fault, IsFault, comes_before}
use Rattle.df_ntyping.proofs.Order.{Segment}
use Rattle.df_ntyping.proofs.ExprOrder.{expr_order, run_order, width_operations}
use Rattle.df_ntyping.specs.Rule.{TypingRule as Own}
use Rattle.df_ntyping.specs.Rule as own
use Rattle.df_ntyping.specs.mirror.Parts.{Breach}
use Rattle.df_ntyping.specs.mirror.Parts.{Typed, Row, Answer, and_then, breach, type_of_operand, or_start}
use Rattle.df_ntyping.specs.mirror.Signs.{rule_of, is_implication, or_side, is_truth_side, is_last, wrong_at, first_type, type_of_run, settled_by, all_settled_by, run_expr, run_ty, run_by}
use Rattle.df_ntyping.specs.mirror.Looking.{outer_type, whole_by, leading_by}
use Rattle.df_ntyping.proofs.FirstFault.{Silent, IsBehind, is_lower, at_one_place, silent_none, silent_one, silent_both, first_or_rest, first_before, first_ahead, none_there}
use Rattle.df_ntyping.proofs.Breaking.{chain_only, chain_broken, chain_later}
use Rattle.df_ntyping.proofs.MeetingTypes.{truth_equal}
use Rattle.df_ntyping.proofs.OpenExprs.{Holds, RunAt}
use Rattle.df_ntyping.proofs.Silent.{truths_anywhere, leading_logical, inside_none}
use Rattle.df_ntyping.proofs.Fitting.{counted_bool, FitBy, AllFit, rule_in, group_rule, is_logical_group, logical_rule_in}
use Rattle.df_ntyping.proofs.Standing.{sign_there}
use Rattle.df_ntyping.proofs.Found.{Stands, Found, AllBeyond, beyond_none, beyond_one, beyond_both, beyond_segment, found_between, found_later, found_one}
use Rattle.df_ntyping.proofs.Verdict.{IsOuter, Looked, Verdict, looked_silent, own_of}
use Rattle.df_ntyping.proofs.Runs.{Knows, is_sum, sum_rule, right_type, right_known, open_behind, closed_behind, twice_some}
use Rattle.df_ntyping.proofs.RunRows.{Operand, bool_operand, RowsGood, RowsVerdict, SumBroken, sum_of, operand_good}
use Rattle.df_ntyping.proofs.Implications.{AllLooked, LookedVerdict, SignsVerdict, operand_truth, signs_judged, truth_operand}

-- ---- the typed run

sum_fit : (of : Ty) (operator : BinaryOperator) (rest : Members) (g : Group) → is_sum g ≡ true → group_of operator ≡ g → FitBy (rule_of operator) of → is_integer of ≡ true
sum_fit of operator rest g s p h = subst (λ (rule : Own). FitBy rule of) (sum_rule g (rule_of operator) s (group_rule g operator p)) h

compares_so : (of : Ty) (operator : BinaryOperator) → FitBy (rule_of operator) of → rule_in groups.Comparison (rule_of operator) ≡ true → compares of operator ≡ true
compares_so of binary.Equal h r = refl
compares_so of binary.NotEqual h r = refl
compares_so of binary.Less h r = h
compares_so of binary.AtMost h r = h
compares_so of binary.Greater h r = h
compares_so of binary.AtLeast h r = h
compares_so of operator h r = absurd cc

chain_so : (of : Ty) (rest : Members) → AllFit of rest → AreOf rest groups.Comparison → all_of (compares of) rest ≡ true
chain_so of end h all = refl
chain_so of (more operator at e rest) h all = rw (compares_so of operator h.0 (group_rule groups.Comparison operator all.0)) (chain_so of rest h.1 all.3)

logical_fit : (of : Ty) (operator : BinaryOperator) (g : Group) → is_logical_group g ≡ true → group_of operator ≡ g → FitBy (rule_of operator) of → of ≡ types.Bool
logical_fit of operator g s p h = subst (λ (rule : Own). FitBy rule of) (logical_rule_in g (rule_of operator) s (group_rule g operator p)) h

abbrev pub keeps : Group → Members → Type 0
keeps groups.Comparison rest = keeps_direction rest ≡ true
keeps g rest = Unit {0}

pub run_made : (g : Group) (operator : BinaryOperator) (at : Pos) (e : Expr) (rest : Members) (of : Ty) (one : typed.Expr) (parts : List Part) → AreOf (more operator at e rest) g → AllFit of (more operator at e rest) → keeps g (more operator at e rest)
    → IsRun (Some g) (more operator at e rest) of one parts (run_ty (Some g) of) (run_expr (Some g) of one parts)
run_made groups.Sum operator at e rest of one parts all fit k = (sum_fit of operator rest groups.Sum refl all.0 fit.0, refl, refl)
run_made groups.Product operator at e rest of one parts all fit k = (sum_fit of operator rest groups.Product refl all.0 fit.0, refl, refl)
run_made groups.Comparison operator at e rest of one parts all fit k = (chain_so of (more operator at e rest) fit all, k, refl, refl)
run_made groups.Conjunction operator at e rest of one parts all fit k = (logical_fit of operator groups.Conjunction refl all.0 fit.0, refl, refl)
run_made groups.Disjunction operator at e rest of one parts all fit k = (logical_fit of operator groups.Disjunction refl all.0 fit.0, refl, refl)
run_made groups.Implication operator at e rest of one parts all fit k = (logical_fit of operator groups.Implication refl all.0 fit.0, refl, refl)
run_made groups.Explication operator at e rest of one parts all fit k = (logical_fit of operator groups.Explication refl all.0 fit.0, refl, refl)
run_made groups.Equivalence operator at e rest of one parts all fit k = (logical_fit of operator groups.Equivalence refl all.0 fit.0, refl, refl)

-- ---- the first operand

first_counted : (all : List (Option Ty)) → counted_of (first_or None all) ≡ first_or None all
first_counted [] = refl
first_counted (None ∷ all) = refl
first_counted (Some ty ∷ all) = twice_some ty

abbrev pub FirstKnown : Environment → Expr → Members → Option Typed → Type 0
FirstKnown env first rest o =
    let wanted = wanted_first env None first rest in
    (counted_of wanted ≡ wanted) × Knows env (wanted_behind env wanted first) (right_type wanted o) (type_of_operand o) rest

open_wanted_first : (env : Environment) (first : Expr) (rest : Members) → is_open first ≡ true → wanted_first env None first rest ≡ first_or None (own_types env rest)
open_wanted_first env first rest p = rw p refl

closed_wanted_first : (env : Environment) (first : Expr) (rest : Members) (t : Typed) → IsExpr first → Looked env first (Some t) → wanted_first env None first rest ≡ Some (counted t.ty)
closed_wanted_first env first rest t g v = rw (v.0, own_of env first t g v) refl

pub first_known : (env : Environment) (first : Expr) (rest : Members) (o : Option Typed) → IsExpr first → Looked env first o → FirstKnown env first rest o
first_known env first rest None g v =
    let wanted = wanted_first env None first rest in
    let same = open_wanted_first env first rest v in
    let counts : counted_of wanted ≡ wanted = subst (λ (w : Option Ty). counted_of w ≡ w) (sym same) (first_counted (own_types env rest)) in
    (counts, subst (λ (w : Option Ty). Knows env w (literal_type wanted) None rest) (sym (open_behind env wanted first v)) (refl, counts, same))
first_known env first rest (Some t) g v =
    let wanted = wanted_first env None first rest in
    let same = closed_wanted_first env first rest t g v in
    let counts : counted_of wanted ≡ wanted = subst (λ (w : Option Ty). counted_of w ≡ w) (sym same) (twice_some t.ty) in
    (counts, subst (λ (w : Option Ty). Knows env w t.ty (Some t.ty) rest) (sym (closed_behind env wanted first t g v)) (refl, twice_some t.ty, refl))

-- ---- the chain

pub some_members : (rest : Members) (g : Group) → first_group rest ≡ Some g → 0 < length (spell_members rest)
some_members end g p = absurd cc
some_members (more operator at e rest) g p = omega arith

abbrev chain_at : Environment → ℕ → ℕ → Members → Occurrence
chain_at env start after rest = occurrence env (nodes.Chain rest) start after

chain_beyond : (env : Environment) (group : Option Group) (start after : ℕ) (rest : Members) (low high : ℕ) → high < after → AllBeyond low high (chain_nodes env group start after rest)
chain_beyond env (Some groups.Comparison) start after rest low high p = beyond_one low high (chain_at env start after rest) (inl p)
chain_beyond env group start after rest low high p = beyond_none low high

direction_lower : (rule : Own) → rule_in groups.Comparison rule ≡ true → is_lower (Typing Direction) (Typing rule) ≡ false
direction_lower own.Order p = refl
direction_lower own.Equality p = refl
direction_lower rule p = absurd cc

chain_behind : (env : Environment) (start after : ℕ) (rest : Members) (xs : List Occurrence) (broken : Breach) (found : Found xs start after broken) (b : Bool) → broken.is_whole ≡ b → (b ≡ true → rule_in groups.Comparison broken.rule ≡ true)
    → Found (xs ++ chain_at env start after rest ∷ []) start after broken
chain_behind env start after rest xs broken found true w r = record {
  fault = found.fault;
  first = first_before xs (chain_at env start after rest ∷ []) found.fault found.first (λ other h t. behind other h t (first_or_rest (chain_at env start after rest) [] other.at h.0));
  rule = found.rule;
  pos = found.pos;
  place = found.place;
} where
  stands : Stands true start after found.fault.at
  stands = subst (λ (x : Bool). Stands x start after found.fault.at) w found.place

  behind : (other : Fault) → IsFault (chain_at env start after rest ∷ []) other → stage_of other.rule ≡ 1 → (chain_at env start after rest ≡ other.at) ⊎ Contains [] other.at → comes_before other found.fault ≡ false
  behind other h t (inl p) =
      let named : other.rule ≡ Typing Direction = chain_later env rest other.rule (subst (λ (x : Occurrence). breaks x.env x.node other.rule ≡ true) (sym p) h.1) in
      at_one_place other found.fault (t ∙ sym found.first.is.broken.1) (ap (λ (x : Occurrence). x.after) (sym p) ∙ sym stands.1) (ap (λ (x : Occurrence). x.start) (sym p) ∙ sym stands.0)
      ∙ subst (λ (x : Rule). is_lower x found.fault.rule ≡ false) (sym named) (subst (λ (x : Rule). is_lower (Typing Direction) x ≡ false) (sym found.rule) (direction_lower broken.rule (r refl)))
  behind other h t (inr p) = absurd (none_there other.at p)
chain_behind env start after rest xs broken found false w r = record {
  fault = found.fault;
  first = first_ahead xs (chain_at env start after rest ∷ []) found.fault found.first (λ other h. behind other (first_or_rest (chain_at env start after rest) [] other h));
  rule = found.rule;
  pos = found.pos;
  place = found.place;
} where
  stands : Stands false start after found.fault.at
  stands = subst (λ (x : Bool). Stands x start after found.fault.at) w found.place

  apart : found.fault.at.after ≤ after → (start < found.fault.at.start) ⊎ (found.fault.at.after < after) → IsBehind found.fault.at (chain_at env start after rest)
  apart most (inr p) = inl p
  apart most (inl p) = by_cases (cases_lt found.fault.at.after after) where
    by_cases : (found.fault.at.after < after) ⊎ (after ≤ found.fault.at.after) → IsBehind found.fault.at (chain_at env start after rest)
    by_cases (inl q) = inl q
    by_cases (inr q) = inr (omega arith, p)

  behind : (other : Occurrence) → (chain_at env start after rest ≡ other) ⊎ Contains [] other → IsBehind found.fault.at other
  behind other (inl p) = subst (λ (x : Occurrence). IsBehind found.fault.at x) p (apart stands.1 stands.2)
  behind other (inr p) = absurd (none_there other p)

-- a fault of a run stays the first with its chain behind it
run_broken : (env : Environment) (g : Group) (start after : ℕ) (rest : Members) (xs : List Occurrence) (broken : Breach) → Found xs start after broken → (broken.is_whole ≡ true → rule_in g broken.rule ≡ true) → Found (xs ++ chain_nodes env (Some g) start after rest) start after broken
run_broken env groups.Comparison start after rest xs broken found r = chain_behind env start after rest xs broken found broken.is_whole refl r
run_broken env g start after rest xs broken found r = subst (λ (all : List Occurrence). Found all start after broken) (sym (append-nil xs)) found

chain_silent_so : (env : Environment) (g : Group) (start after : ℕ) (rest : Members) → keeps g rest → Silent (chain_nodes env (Some g) start after rest)
chain_silent_so env groups.Comparison start after rest k = silent_one (chain_at env start after rest) (chain_only env rest start after k)
chain_silent_so env g start after rest k = silent_none

-- ---- what a run comes to

open_side : (env : Environment) (first : Expr) (o : Option Typed) → Looked env first o → is_open first ≡ not (is_some (type_of_operand o))
open_side env first None v = v
open_side env first (Some t) v = v.0

both_open : (one other : Option Ty) → (not (is_some one) && not (is_some other)) ≡ not (is_some (or_side one other))
both_open None other = refl
both_open (Some ty) other = refl

regroup : (a b c d : Bool) → (b && c) ≡ d → (a && b && c) ≡ (a && d)
regroup true b c d p = p
regroup false b c d p = refl

pub whole_open : (env : Environment) (g : Group) (first : Expr) (rest : Members) (o : Option Typed) (rows : List Row) → first_group rest ≡ Some g → Looked env first o → are_open rest ≡ not (is_some (first_type rows))
    → is_open (Operations first rest) ≡ (is_arithmetic (Some g) && not (is_some (or_side (type_of_operand o) (first_type rows))))
whole_open env g first rest o rows p v q =
    rw p (regroup (is_arithmetic (Some g)) (is_open first) (are_open rest) (not (is_some (or_side (type_of_operand o) (first_type rows))))
    (rw (open_side env first o v, q) (both_open (type_of_operand o) (first_type rows))))

-- it elaborates where its operands do
run_elaborates : (value : Literal → ℤ) (env : Environment) (g : Group) (first : Expr) (rest : Members) (of : Ty) (o : Option Typed) (rows : List Row) → first_group rest ≡ Some g → Operand value env (wanted_first env None first rest) of first o
    → AreOperands env (wanted_behind env (wanted_first env None first rest) first) of rest (all_settled_by value of rows) → IsRun (Some g) rest of (settled_by value of first o) (all_settled_by value of rows) (run_ty (Some g) of) (run_expr (Some g) of (settled_by value of first o) (all_settled_by value of rows))
    → Elaborates env None (Operations first rest) (run_ty (Some g) of) (run_expr (Some g) of (settled_by value of first o) (all_settled_by value of rows))
run_elaborates value env g first rest of o rows p (source, inner, elaborates, counting, conversion) operands run =
    let one = settled_by value of first o in
    let parts = all_settled_by value of rows in
    let ty = run_ty (Some g) of in
    let t = run_expr (Some g) of one parts in
    let grouped : IsRun (first_group rest) rest of one parts ty t = subst (λ (group : Option Group). IsRun group rest of one parts ty t) (sym p) run in
    let here : RunAt env first rest ty t (wanted_first env None first rest) = (of, source, inner, one, parts, elaborates, counting, conversion, operands, grouped) in
    subst (RunAt env first rest ty t) (sym (ap (λ (inside : Option Ty). wanted_first env inside first rest) (inside_none (first_group rest)))) here

some_rest : (rest : Members) (g : Group) (of : Ty) (one : typed.Expr) (parts : List Part) → first_group rest ≡ Some g → AreOf rest g → AllFit of rest → keeps g rest → IsRun (Some g) rest of one parts (run_ty (Some g) of) (run_expr (Some g) of one parts)
some_rest end g of one parts p all fit k = absurd cc
some_rest (more operator at e rest) g of one parts p all fit k = run_made g operator at e rest of one parts all fit k

pub run_looked : (value : Literal → ℤ) (env : Environment) (g : Group) (first : Expr) (rest : Members) (o : Option Typed) (rows : List Row) → first_group rest ≡ Some g → IsExpr first → AreOf rest g → Holds value first → Looked env first o → FirstKnown env first rest o
    → RowsGood value env g (wanted_behind env (wanted_first env None first rest) first) (right_type (wanted_first env None first rest) o) (type_of_operand o) rest rows → keeps g rest
    → Looked env (Operations first rest) (run_by value (Some g) first o rows)
run_looked value env g first rest o rows p x all h v known good k = by_cases (is_arithmetic (Some g) && not (is_some (or_side (type_of_operand o) (first_type rows)))) refl where
  by_cases : (b : Bool) → (is_arithmetic (Some g) && not (is_some (or_side (type_of_operand o) (first_type rows)))) ≡ b → Looked env (Operations first rest) (run_by value (Some g) first o rows)
  by_cases true b = rw b (whole_open env g first rest o rows p v good.3 ∙ b)
  by_cases false b =
      rw b (
        whole_open env g first rest o rows p v good.3 ∙ b,
        run_elaborates value env g first rest (type_of_run (or_side (type_of_operand o) (first_type rows))) o rows p
            (operand_good value env (wanted_first env None first rest) (type_of_run (or_side (type_of_operand o) (first_type rows))) first o x h v known.0 good.0) good.1
            (some_rest rest g (type_of_run (or_side (type_of_operand o) (first_type rows))) (settled_by value (type_of_run (or_side (type_of_operand o) (first_type rows))) first o) (all_settled_by value (type_of_run (or_side (type_of_operand o) (first_type rows))) rows) p all good.2 k),
      )

-- ---- the nodes of a run

module _ (env : Environment) (start : ℕ) (first : Expr) (rest : Members) where
  abbrev pub run_after : ℕ
  run_after = start + width (Operations first rest)

  abbrev pub run_wanted : Option Ty
  run_wanted = wanted_first env None first rest

  abbrev pub run_part : Option Group → Option Ty → List Occurrence
  run_part group left = run_nodes env group start (start + width first) (wanted_behind env run_wanted first) left run_after rest

  -- the nodes, where the group and the type of the first operand are known
  pub run_seen : (g : Group) (left : Ty) → first_group rest ≡ Some g → type_in env run_wanted first ≡ Some left
      → expr_nodes env start (Operations first rest) ≡ expr_nodes env start first ++ run_part (Some g) (Some left) ++ chain_nodes env (Some g) start run_after rest
  run_seen g left p q =
      ap (λ (group : Option Group). expr_nodes env start first ++ run_part group (type_in env run_wanted first) ++ chain_nodes env group start run_after rest) p
      ∙ ap (λ (l : Option Ty). expr_nodes env start first ++ run_part (Some g) l ++ chain_nodes env (Some g) start run_after rest) q

  pub run_segment : (g : Group) (left : Option Ty) → AreOf rest g → Segment start (start + width first) run_after (run_part (Some g) left)
  run_segment g left all = run_order env (Some g) start (start + width first) (wanted_behind env run_wanted first) left run_after rest g all (omega arith) (omega (arith, width_operations first rest))

  -- the first operand breaks a rule
  pub head_broken : (g : Group) (broken : Breach) → first_group rest ≡ Some g → IsExpr first → AreOf rest g → Found (expr_nodes env start first) start (start + width first) broken
      → Found (expr_nodes env start (Operations first rest)) start run_after (breach broken.rule broken.pos false)
  head_broken g broken p x all found =
      let left = type_in env run_wanted first in
      let xs = expr_nodes env start first in
      let ys = run_part (Some g) left in
      let zs = chain_nodes env (Some g) start run_after rest in
      let longer : start + width first < run_after = omega (arith, width_operations first rest, some_members rest g p) in
      let beyond = beyond_both start (start + width first) ys zs (beyond_segment start (start + width first) start (start + width first) run_after ys (run_segment g left all) (omega arith)) (chain_beyond env (Some g) start run_after rest start (start + width first) longer) in
      let inner = found_between start run_after start start (start + width first) start (start + width first) [] xs (ys ++ zs) broken silent_none found (expr_order env start first x) beyond (omega arith) (omega arith) (inr longer) in
      subst (λ (all : List Occurrence). Found all start run_after (breach broken.rule broken.pos false))
      (sym (append_assoc xs ys zs) ∙ ap (λ (group : Option Group). expr_nodes env start first ++ run_part group left ++ chain_nodes env group start run_after rest) (sym p)) inner

-- ---- what is told of the whole has its type

sum_arithmetic : (g : Group) → is_arithmetic (Some g) ≡ is_sum g
sum_arithmetic groups.Sum = refl
sum_arithmetic groups.Product = refl
sum_arithmetic groups.Equivalence = refl
sum_arithmetic groups.Implication = refl
sum_arithmetic groups.Explication = refl
sum_arithmetic groups.Conjunction = refl
sum_arithmetic groups.Disjunction = refl
sum_arithmetic groups.Comparison = refl

own_sum : (env : Environment) (first : Expr) (rest : Members) (o : Option Typed) → IsExpr first → Looked env first o → common_type ((if is_open first then [] else own_type env first ∷ []) ++ own_types env rest) ≡ sum_of (type_of_operand o) (own_types env rest)
own_sum env first rest None x v = rw v refl
own_sum env first rest (Some t) x v = rw (v.0, own_of env first t x v) refl

run_outer : (env : Environment) (g : Group) (first : Expr) (rest : Members) (o : Option Typed) (broken : Breach) → first_group rest ≡ Some g → IsExpr first → Looked env first o → SumBroken env g (type_of_operand o) rest broken → IsOuter env (Operations first rest) broken
run_outer env g first rest o broken p x v s w = by_cases (is_arithmetic (Some g)) refl where
  by_cases : (b : Bool) → is_arithmetic (Some g) ≡ b → own_type env (Operations first rest) ≡ outer_type env (Operations first rest)
  by_cases true a = rw (p, a) (own_sum env first rest o x v ∙ s w (sym (sum_arithmetic g) ∙ a))
  by_cases false a = rw (p, a) refl

logical_outer : (env : Environment) (g : Group) (first : Expr) (rest : Members) (broken : Breach) → first_group rest ≡ Some g → is_arithmetic (Some g) ≡ false → IsOuter env (Operations first rest) broken
logical_outer env g first rest broken p a w = rw (p, a) refl

-- ---- the whole, behind its operands

abbrev pub WholeVerdict : (Literal → ℤ) → Environment → ℕ → Group → Expr → Members → Option Typed → Answer (List Row) → Type 0
WholeVerdict value env start g first rest o answer = Verdict env start (Operations first rest) (and_then answer (whole_by value (Some g) first o rest))

-- a chain that changes its direction
chain_found : (env : Environment) (start : ℕ) (first : Expr) (rest : Members) (left : Ty) → first_group rest ≡ Some groups.Comparison → type_in env (wanted_first env None first rest) first ≡ Some left → keeps_direction rest ≡ false
    → Silent (expr_nodes env start first ++ run_part env start first rest (Some groups.Comparison) (Some left))
    → Found (expr_nodes env start (Operations first rest)) start (start + width (Operations first rest)) (breach own.Direction (or_start (first_sign rest)) true)
chain_found env start first rest left p q k silent =
    let after = start + width (Operations first rest) in
    subst (λ (nodes : List Occurrence). Found nodes start after (breach own.Direction (or_start (first_sign rest)) true)) (sym (run_seen env start first rest groups.Comparison left p q))
    (found_later start after (expr_nodes env start first ++ run_part env start first rest (Some groups.Comparison) (Some left)) (chain_at env start after rest ∷ []) (breach own.Direction (or_start (first_sign rest)) true) silent
    (found_one start after (chain_at env start after rest) own.Direction (or_start (first_sign rest)) true (rw k refl) (chain_broken env rest start after) (sign_there rest groups.Comparison p) (refl, refl)))

chain_whole : (value : Literal → ℤ) (env : Environment) (start : ℕ) (first : Expr) (rest : Members) (o : Option Typed) (rows : List Row) → first_group rest ≡ Some groups.Comparison → IsExpr first → AreOf rest groups.Comparison → Holds value first → Looked env first o → FirstKnown env first rest o
    → RowsVerdict value env groups.Comparison start (start + width first) (wanted_behind env (wanted_first env None first rest) first) (right_type (wanted_first env None first rest) o) (type_of_operand o) (start + width (Operations first rest)) rest (Ok rows)
    → WholeVerdict value env start groups.Comparison first rest o (Ok rows)
chain_whole value env start first rest o rows p x all h v known verdict = by_cases (keeps_direction rest) refl where
  by_cases : (b : Bool) → keeps_direction rest ≡ b → WholeVerdict value env start groups.Comparison first rest o (Ok rows)
  by_cases true k = rw k (run_looked value env groups.Comparison first rest o rows p x all h v known verdict.0 k)
  by_cases false k =
      rw k (
        chain_found env start first rest (right_type (wanted_first env None first rest) o) p (right_known env (wanted_first env None first rest) first o known.0 x v) k
            (silent_both (expr_nodes env start first) (run_part env start first rest (Some groups.Comparison) (Some (right_type (wanted_first env None first rest) o))) (looked_silent env start first o x v) verdict.1),
        logical_outer env groups.Comparison first rest (breach own.Direction (or_start (first_sign rest)) true) p refl,
      )

-- what is found in implications
arrows_found : (env : Environment) (start : ℕ) (first : Expr) (rest : Members) (broken : Breach) → first_group rest ≡ Some groups.Implication
    → Found (expr_nodes env start first ++ run_part env start first rest (Some groups.Implication) (type_in env (wanted_first env None first rest) first)) start (start + width (Operations first rest)) broken
    → Found (expr_nodes env start (Operations first rest)) start (start + width (Operations first rest)) broken
arrows_found env start first rest broken p found =
    let after = start + width (Operations first rest) in
    let left = type_in env (wanted_first env None first rest) first in
    subst (λ (group : Option Group). Found (expr_nodes env start first ++ run_part env start first rest group left ++ chain_nodes env group start after rest) start after broken) (sym p)
    (subst (λ (all : List Occurrence). Found all start after broken) (sym (append-nil (expr_nodes env start first ++ run_part env start first rest (Some groups.Implication) left))) found)

-- all signs are taken
pub rows_whole : (value : Literal → ℤ) (env : Environment) (start : ℕ) (g : Group) (first : Expr) (rest : Members) (o : Option Typed) (answer : Answer (List Row)) → is_implication (Some g) ≡ false → first_group rest ≡ Some g → IsExpr first → AreOf rest g → Holds value first
    → Looked env first o → FirstKnown env first rest o
    → RowsVerdict value env g start (start + width first) (wanted_behind env (wanted_first env None first rest) first) (right_type (wanted_first env None first rest) o) (type_of_operand o) (start + width (Operations first rest)) rest answer
    → WholeVerdict value env start g first rest o answer
rows_whole value env start g first rest o (Err broken) i p x all h v known verdict =
    let wanted = wanted_first env None first rest in
    let after = start + width (Operations first rest) in
    let left = right_type wanted o in
    let xs = expr_nodes env start first in
    let ys = run_part env start first rest (Some g) (Some left) in (
      subst (λ (nodes : List Occurrence). Found nodes start after broken) (sym (run_seen env start first rest g left p (right_known env wanted first o known.0 x v)))
          (run_broken env g start after rest (xs ++ ys) broken (found_later start after xs ys broken (looked_silent env start first o x v) verdict.0) verdict.2),
      run_outer env g first rest o broken p x v verdict.1,
    )
rows_whole value env start groups.Implication first rest o (Ok rows) i p x all h v known verdict = absurd cc
rows_whole value env start groups.Comparison first rest o (Ok rows) i p x all h v known verdict = chain_whole value env start first rest o rows p x all h v known verdict
rows_whole value env start g first rest o (Ok rows) i p x all h v known verdict = run_looked value env g first rest o rows p x all h v known verdict.0 tt

-- ---- implications

arrow_types : (env : Environment) (rest : Members) (rows : List Row) (g : Group) → first_group rest ≡ Some g → AllLooked env rest rows → is_last rows ≡ false
arrow_types env end rows g p a = absurd cc
arrow_types env (more operator at e rest) [] g p a = absurd a
arrow_types env (more operator at e rest) (row ∷ rows) g p a = refl

truth_known : (o : Option Typed) → is_truth_side (type_of_operand o) ≡ true → type_of_operand o ≡ Some types.Bool
truth_known None p = absurd cc
truth_known (Some t) p = ap Some (truth_equal t.ty p)

arrows_looked : (value : Literal → ℤ) (env : Environment) (first : Expr) (rest : Members) (o : Option Typed) (rows : List Row) → first_group rest ≡ Some groups.Implication → IsExpr first → Looked env first o → is_truth_side (type_of_operand o) ≡ true
    → ((other : Option Ty) → AreOperands env other types.Bool rest (all_settled_by value types.Bool rows)) → Looked env (Operations first rest) (run_by value (Some groups.Implication) first o rows)
arrows_looked value env first rest o rows p x v t operands =
    let wanted = wanted_first env None first rest in
    let known = truth_known o t in
    let of : type_of_run (or_side (type_of_operand o) (first_type rows)) ≡ types.Bool = rw known refl in
    let (inner, elaborates, conversion) = truth_operand value env wanted first o x v t in
    let here = run_elaborates value env groups.Implication first rest types.Bool o rows p (bool_operand value env wanted first o inner elaborates conversion) (operands (wanted_behind env wanted first)) (refl, refl, refl) in (
      rw p refl,
      subst (λ (ty : Ty). Elaborates env None (Operations first rest) (run_ty (Some groups.Implication) ty) (run_expr (Some groups.Implication) ty (settled_by value ty first o) (all_settled_by value ty rows))) (sym of) here,
    )

pub arrows_whole : (value : Literal → ℤ) (env : Environment) (start : ℕ) (first : Expr) (rest : Members) (o : Option Typed) (answer : Answer (List Row)) → first_group rest ≡ Some groups.Implication → IsExpr first → AreOf rest groups.Implication → Looked env first o
    → LookedVerdict env start (start + width first) (wanted_behind env (wanted_first env None first rest) first) (type_in env (wanted_first env None first rest) first) (start + width (Operations first rest)) rest answer
    → WholeVerdict value env start groups.Implication first rest o answer
arrows_whole value env start first rest o (Err broken) p x all v verdict =
    let after = start + width (Operations first rest) in
    (arrows_found env start first rest broken p (found_later start after (expr_nodes env start first) _ broken (looked_silent env start first o x v) verdict.0), logical_outer env groups.Implication first rest broken p refl)
arrows_whole value env start first rest o (Ok rows) p x all v verdict = by_signs (wrong_at true (type_of_operand o) rows) refl signs where
  signs : SignsVerdict value env true start start (start + width first) (wanted_behind env (wanted_first env None first rest) first) (type_in env (wanted_first env None first rest) first) (type_of_operand o) (start + width (Operations first rest)) rest rows (wrong_at true (type_of_operand o) rows)
  signs =
      signs_judged value env true start start (start + width first) (wanted_behind env (wanted_first env None first rest) first) (type_in env (wanted_first env None first rest) first) (type_of_operand o) (start + width (Operations first rest)) rest rows all (omega arith) (omega (arith, width_operations first rest)) refl
      (operand_truth env (wanted_first env None first rest) first o x v) verdict

  by_signs : (wrong : Option Breach) → wrong_at true (type_of_operand o) rows ≡ wrong
      → SignsVerdict value env true start start (start + width first) (wanted_behind env (wanted_first env None first rest) first) (type_in env (wanted_first env None first rest) first) (type_of_operand o) (start + width (Operations first rest)) rest rows wrong
      → WholeVerdict value env start groups.Implication first rest o (Ok rows)
  by_signs None w s = rw w (arrows_looked value env first rest o rows p x v (s.2 (arrow_types env rest rows groups.Implication p verdict)) s.1)
  by_signs (Some broken) w s =
      rw w
      (arrows_found env start first rest broken p (found_later start (start + width (Operations first rest)) (expr_nodes env start first) _ broken (looked_silent env start first o x v) s), logical_outer env groups.Implication first rest broken p refl)

-- ---- rows that begin with their sign

first_operand : typed.Expr → List Part → typed.Expr
first_operand e [] = e
first_operand e (part ∷ parts) = part.operand

later_parts : List Part → List Part
later_parts [] = []
later_parts (part ∷ parts) = parts

leading_expr : (g : Group) (one : typed.Expr) (parts : List Part) → level_of g ≡ levels.Junction → IsLeading (Some g) one parts (run_expr (Some g) types.Bool one parts)
leading_expr groups.Conjunction one parts l = refl
leading_expr groups.Disjunction one parts l = refl
leading_expr g one parts l = absurd cc

leading_ty : (g : Group) → level_of g ≡ levels.Junction → run_ty (Some g) types.Bool ≡ types.Bool
leading_ty groups.Conjunction l = refl
leading_ty groups.Disjunction l = refl
leading_ty g l = absurd cc

leading_some : (g : Group) → level_of g ≡ levels.Junction → is_arithmetic (Some g) ≡ false
leading_some groups.Conjunction l = refl
leading_some groups.Disjunction l = refl
leading_some g l = absurd cc

-- what a row elaborates to whose operands are truths
leading_typed : (value : Literal → ℤ) (env : Environment) (g : Group) (operator : BinaryOperator) (at : Pos) (e : Expr) (rest : Members) (row : Row) (rows : List Row) → group_of operator ≡ g → level_of g ≡ levels.Junction → AreOf (more operator at e rest) g
    → AreOperands env None types.Bool (more operator at e rest) (all_settled_by value types.Bool (row ∷ rows))
    → Elaborates env None (Leading (more operator at e rest)) types.Bool (run_expr (Some g) types.Bool (settled_by value types.Bool row.operand row.typed) (all_settled_by value types.Bool rows))
unfolding first_operand later_parts
leading_typed value env g operator at e rest row rows p l all (source, inner, one, others, elaborates, counts, conversion, operands, q) =
    let own : typed.Expr = settled_by value types.Bool row.operand row.typed in
    let parts : List Part = all_settled_by value types.Bool rows in
    let bool : source ≡ types.Bool = counted_bool source counts in
    let converted : one ≡ inner = subst (λ (ty : Ty). Converts ty types.Bool e inner one) bool conversion in
    let same : own ≡ one = ap (first_operand one) q in
    let rest_same : parts ≡ others = ap later_parts q in (
      own,
      parts,
      subst (λ (t : typed.Expr). Elaborates env None e types.Bool t) (sym (same ∙ converted)) (subst (λ (ty : Ty). Elaborates env None e ty inner) bool elaborates),
      subst (λ (ps : List Part). AreOperands env None types.Bool rest ps) (sym rest_same) (truths_anywhere env (wanted_behind env None e) None rest others g all.3 operands),
      refl,
      subst (λ (h : Group). IsLeading (Some h) own parts (run_expr (Some g) types.Bool own parts)) (sym p) (leading_expr g own parts l),
    )

leading_looked : (value : Literal → ℤ) (env : Environment) (g : Group) (operator : BinaryOperator) (at : Pos) (e : Expr) (rest : Members) (rows : List Row) → group_of operator ≡ g → level_of g ≡ levels.Junction → AreOf (more operator at e rest) g
    → RowsGood value env g None types.Bool (Some types.Bool) (more operator at e rest) rows → Looked env (Leading (more operator at e rest)) (leading_by value (Some g) rows)
leading_looked value env g operator at e rest [] p l all good = absurd (no_part good.1) where
  no_part : AreOperands env None types.Bool (more operator at e rest) [] → ⊥
  no_part (source, inner, one, others, elaborates, counts, conversion, operands, q) = cc
leading_looked value env g operator at e rest (row ∷ rows) p l all good =
    let truth = (good.4 (leading_logical g l)).0 in
    let of : type_of_run (or_side (type_of_operand row.typed) (first_type rows)) ≡ types.Bool = rw truth refl in
    let typed_row = leading_typed value env g operator at e rest row rows p l all good.1 in
    rw (leading_some g l) (
      refl,
      subst (λ (ty : Ty). Elaborates env None (Leading (more operator at e rest)) (run_ty (Some g) ty) (run_expr (Some g) ty (settled_by value ty row.operand row.typed) (all_settled_by value ty rows))) (sym of)
          (subst (λ (ty : Ty). Elaborates env None (Leading (more operator at e rest)) ty (run_expr (Some g) types.Bool (settled_by value types.Bool row.operand row.typed) (all_settled_by value types.Bool rows))) (sym (leading_ty g l)) typed_row),
    )

pub leading_whole : (value : Literal → ℤ) (env : Environment) (start : ℕ) (g : Group) (operator : BinaryOperator) (at : Pos) (e : Expr) (rest : Members) (answer : Answer (List Row)) → group_of operator ≡ g → level_of g ≡ levels.Junction → AreOf (more operator at e rest) g
    → RowsVerdict value env g start start None types.Bool (Some types.Bool) (start + width (Leading (more operator at e rest))) (more operator at e rest) answer
    → Verdict env start (Leading (more operator at e rest)) (and_then answer (λ (rows : List Row). Ok (leading_by value (Some g) rows)))
leading_whole value env start g operator at e rest (Ok rows) p l all verdict = leading_looked value env g operator at e rest rows p l all verdict.0
leading_whole value env start g operator at e rest (Err broken) p l all verdict = (
  subst (λ (group : Option Group). Found (run_nodes env group start start None (Some types.Bool) (start + width (Leading (more operator at e rest))) (more operator at e rest)) start (start + width (Leading (more operator at e rest))) broken) (sym (ap Some p)) verdict.0,
  λ w. refl,
)
