-- The rows of a run that were looked at, in front of those that are left.
use Rattle.std.proofs.Common.{◌≡◌, ℕ, suc, ◌+◌, ◌<◌, Bool, true, false, List, [], ◌∷◌, ◌++◌, length, map, drop, get_or, nat_eq, Option, Ok, Err, Vec, Global, refl, sym, ap, ◌∙◌, arith, append_assoc}
use Rattle.std.proofs.lemmas.Bool.{eqb-true, eqb-false, eq-eqb, ne_eqb}
use Rattle.std.proofs.lemmas.List.{length-drop}
use Rattle.df_base.specs.declared.pos.Pos.{Pos}
use Rattle.df_lang.specs.declared.ty.Ty.{Ty}
use Rattle.df_ntree.specs.declared.expr.BinaryOperator.{BinaryOperator}
use Rattle.df_ntree.specs.declared.expr.Group.{Group}
use Rattle.df_ntree.specs.declared.expr.Operation as declared_operation
use Rattle.df_ntree.specs.Expr as tree
use Rattle.df_ntree.specs.Expr.{Members, end, more}
use Rattle.df_ntyping.specs.Environment.{Environment}
use Rattle.df_ntyping.specs.mirror.Parts.{Typed, Row, Breach, Answer, and_then, inside, breach, type_of_operand}
use Rattle.df_ntyping.specs.mirror.Signs.{rule_of, sign_holds, left_behind, is_end, is_last}
use Rattle.df_ntyping.specs.mirror.Looking.{signed, with_row, behind_rows, look, look_rows}
use Rattle.df_ntexpr.specs.declared.part.Row as declared_row
use Rattle.df_ntexpr.specs.declared.broken.Halt.{Halt}
use Rattle.df_ntexpr.specs.declared.broken.Halt.TheVariants as halts
use Rattle.df_ntexpr.specs.Parts.{signed_row, row_of, breach_of, Gives}
use Rattle.df_ntexpr.proofs.Opening.{cut}

-- ---- the end

pub left_over : {A : Type 0} (xs : List A) (i : ℕ) → i < length xs → nat_eq (i + 1) (length xs) ≡ nat_eq (length (drop (i + 1) xs)) 0
left_over xs i lt = by (nat_eq (i + 1) (length xs)) refl where
  by : (b : Bool) → nat_eq (i + 1) (length xs) ≡ b → b ≡ nat_eq (length (drop (i + 1) xs)) 0
  by true p = let e : i + 1 ≡ length xs = eqb-true (i + 1) (length xs) p in sym (eq-eqb (length (drop (i + 1) xs)) 0 (omega (arith, length-drop (i + 1) xs)))
  by false p = sym (ne_eqb (length (drop (i + 1) xs)) 0 (λ e. (eqb-false (i + 1) (length xs) p) (omega (arith, e, length-drop (i + 1) xs))))

ends : (items : List declared_operation.Operation) → is_end (tree.members_of (map tree.operation_of items)) ≡ nat_eq (length items) 0
ends [] = refl
ends (x ∷ items) = sym (ne_eqb (suc (length items)) 0 (λ e. omega (arith, e)))

pub ends_behind : (items : List declared_operation.Operation) (i : ℕ) → i < length items → nat_eq (i + 1) (length items) ≡ is_end (tree.members_of (map tree.operation_of (drop (i + 1) items)))
ends_behind items i lt = left_over items i lt ∙ sym (ends (drop (i + 1) items))

last_row : (rows : List declared_row.Row) → is_last (map row_of rows) ≡ nat_eq (length rows) 0
last_row [] = refl
last_row (x ∷ rows) = sym (ne_eqb (suc (length rows)) 0 (λ e. omega (arith, e)))

pub last_behind : (rows : List declared_row.Row) (i : ℕ) → i < length rows → nat_eq (i + 1) (length rows) ≡ is_last (map row_of (drop (i + 1) rows))
last_behind rows i lt = left_over rows i lt ∙ sym (last_row (drop (i + 1) rows))

-- ---- one row more

one_more : (before : List Row) (row : Row) (answer : Answer (List Row)) → behind_rows before (with_row row answer) ≡ behind_rows (before ++ row ∷ []) answer
one_more before row (Ok rows) = ap Ok (sym (append_assoc before (row ∷ []) rows))
one_more before row (Err broken) = refl

abbrev answered : Row → Answer Row
answered row = Ok row

abbrev refused : Breach → Answer Row
refused broken = Err broken

same_row : (one other : Row) → answered one ≡ answered other → one ≡ other
same_row one other p = cc

no_row : (broken : Breach) (row : Row) → refused broken ≡ answered row → ⊥
no_row broken row p = cc

taken : (group : Option Group) (operator : BinaryOperator) (at : Pos) (operand : tree.Expr) (left : Option Ty) (o : Option Typed) (is_whole : Bool) (row : Row) (others : Option Ty → Answer (List Row)) (b : Bool) → sign_holds group operator left (type_of_operand o) ≡ b
    → signed_row group operator at operand left o is_whole ≡ Ok row
    → and_then (signed group operator at left (type_of_operand o) is_whole) (λ (done : Unit {0}). with_row (record { operator = operator; pos = at; operand = operand; typed = o }) (others (left_behind group left (type_of_operand o))))
    ≡ with_row row (others (left_behind group left (type_of_operand row.typed)))
taken group operator at operand left o is_whole row others true p h =
    let made : Row = record { operator = operator; pos = at; operand = operand; typed = o } in
    let whole : answered made ≡ answered row = rw p at h in
    rw p (ap (λ (x : Row). with_row x (others (left_behind group left (type_of_operand x.typed)))) (same_row made row whole))
taken group operator at operand left o is_whole row others false p h =
    let none : refused (breach (rule_of operator) at is_whole) ≡ answered row = rw p at h in
    absurd (no_row (breach (rule_of operator) at is_whole) row none)

pub goes_on : (env : Environment) (group : Option Group) (items : List declared_operation.Operation) (i : ℕ) (item : declared_operation.Operation) (left : Option Ty) (before : List Row) (o : Option Typed) (row : Row) (is_whole : Bool) (total : Answer (List Row)) → i < length items
    → item ≡ get_or items i item → inside (look env (tree.expr_of item.operand)) ≡ Ok o → is_whole ≡ is_end (tree.members_of (map tree.operation_of (drop (i + 1) items)))
    → signed_row group item.operator item.pos (tree.expr_of item.operand) left o is_whole ≡ Ok row → behind_rows before (look_rows env group left (tree.members_of (map tree.operation_of (drop i items)))) ≡ total
    → behind_rows (before ++ row ∷ []) (look_rows env group (left_behind group left (type_of_operand row.typed)) (tree.members_of (map tree.operation_of (drop (i + 1) items)))) ≡ total
goes_on env group items i item left before o row is_whole total lt is looked whole signs so_far =
    let rest : Members = tree.members_of (map tree.operation_of (drop (i + 1) items)) in
    let step : look_rows env group left (more item.operator item.pos (tree.expr_of item.operand) rest) ≡ with_row row (look_rows env group (left_behind group left (type_of_operand row.typed)) rest) =
    rw (looked, ← whole)
    (taken group item.operator item.pos (tree.expr_of item.operand) left o is_whole row (λ (l : Option Ty). look_rows env group l rest) (sign_holds group item.operator left (type_of_operand o)) refl signs) in
    sym (one_more before row (look_rows env group (left_behind group left (type_of_operand row.typed)) rest))
    ∙ ap (behind_rows before) (sym (ap (look_rows env group left) (cut items i item lt is) ∙ step)) ∙ so_far

-- ---- the sign breaks a rule

same_breach : (one other : Breach) → refused one ≡ refused other → one ≡ other
same_breach one other p = cc

not_broken : (row : Row) (broken : Breach) → answered row ≡ refused broken → ⊥
not_broken row broken p = cc

abbrev refused_rows : Breach → Answer (List Row)
refused_rows broken = Err broken

not_taken : (group : Option Group) (operator : BinaryOperator) (at : Pos) (operand : tree.Expr) (left : Option Ty) (o : Option Typed) (is_whole : Bool) (broken : Breach) (others : Option Ty → Answer (List Row)) (b : Bool) → sign_holds group operator left (type_of_operand o) ≡ b
    → signed_row group operator at operand left o is_whole ≡ Err broken
    → and_then (signed group operator at left (type_of_operand o) is_whole) (λ (done : Unit {0}). with_row (record { operator = operator; pos = at; operand = operand; typed = o }) (others (left_behind group left (type_of_operand o))))
    ≡ Err broken
not_taken group operator at operand left o is_whole broken others true p h =
    let made : Row = record { operator = operator; pos = at; operand = operand; typed = o } in
    let none : answered made ≡ refused broken = rw p at h in
    absurd (not_broken made broken none)
not_taken group operator at operand left o is_whole broken others false p h =
    let same : refused (breach (rule_of operator) at is_whole) ≡ refused broken = rw p at h in
    rw p (ap refused_rows (same_breach (breach (rule_of operator) at is_whole) broken same))

pub stops : (env : Environment) (group : Option Group) (items : List declared_operation.Operation) (i : ℕ) (item : declared_operation.Operation) (left : Option Ty) (before : List Row) (o : Option Typed) (halt : Halt) (is_whole : Bool) (total : Answer (List Row)) → i < length items
    → item ≡ get_or items i item → inside (look env (tree.expr_of item.operand)) ≡ Ok o → is_whole ≡ is_end (tree.members_of (map tree.operation_of (drop (i + 1) items)))
    → Gives row_of (Err halt) (signed_row group item.operator item.pos (tree.expr_of item.operand) left o is_whole) → behind_rows before (look_rows env group left (tree.members_of (map tree.operation_of (drop i items)))) ≡ total
    → Gives {X = Vec declared_row.Row Global} {Y = List Row} (λ v. map row_of v.items) (Err halt) total
stops env group items i item left before o halts.Memory is_whole total lt is looked whole signs so_far = tt
stops env group items i item left before o (halts.Broken broken) is_whole total lt is looked whole signs so_far =
    let rest : Members = tree.members_of (map tree.operation_of (drop (i + 1) items)) in
    let step : look_rows env group left (more item.operator item.pos (tree.expr_of item.operand) rest) ≡ Err (breach_of broken) =
    rw (looked, ← whole)
    (not_taken group item.operator item.pos (tree.expr_of item.operand) left o is_whole (breach_of broken) (λ (l : Option Ty). look_rows env group l rest) (sign_holds group item.operator left (type_of_operand o)) refl signs) in
    sym so_far ∙ ap (behind_rows before) (ap (look_rows env group left) (cut items i item lt is) ∙ step)
