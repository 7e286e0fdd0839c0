-- Of implications the last one that has no truths, found from the first on.
use Rattle.std.proofs.Common.{◌≡◌, ℕ, ◌+◌, ◌<◌, Bool, true, false, not, ◌&&◌, ◌||◌, List, ◌∷◌, length, map, drop, get_or, Option, Some, None, nat_eq, refl, sym, ap, ◌∙◌, arith, drop-cons, add-one}
use Rattle.std.specs.Prelude.{if◌then◌else◌}
use Rattle.std.proofs.lemmas.Bool.{ne_eqb}
use Rattle.df_lang.specs.declared.ty.Ty.{Ty}
use Rattle.df_ntyping.specs.Rule as rules
use Rattle.df_ntyping.specs.mirror.Parts.{Row, Breach, breach, type_of_operand}
use Rattle.df_ntyping.specs.mirror.Signs.{is_truth_side, is_last, or_breach, wrong_at}
use Rattle.df_ntexpr.specs.declared.part.Row as declared_row
use Rattle.df_ntexpr.specs.Parts.{operand_of, row_of}

regroup : (a b c : Option Breach) → or_breach (or_breach a b) c ≡ or_breach a (or_breach b c)
regroup None b c = refl
regroup (Some x) b c = refl

picked : (holds : Bool) (wrong : Option Breach) (x : Breach) → or_breach (if holds then None else Some x) wrong ≡ (if holds then wrong else Some x)
picked true wrong x = refl
picked false wrong x = refl

-- what is wrong so far, before what is wrong behind
pub next_wrong : (is_first last : Bool) (left : Option Ty) (row : Row) (rest : List Row) (wrong next : Option Breach) → last ≡ is_last rest
    → next ≡ (if is_truth_side left && (is_truth_side (type_of_operand row.typed) || not last) then wrong else Some (breach rules.Truths row.pos is_first))
    → or_breach (wrong_at false (type_of_operand row.typed) rest) next ≡ or_breach (wrong_at is_first left (row ∷ rest)) wrong
next_wrong is_first last left row rest wrong next p q =
    rw (q, p)
    (ap (or_breach (wrong_at false (type_of_operand row.typed) rest)) (sym (picked (is_truth_side left && (is_truth_side (type_of_operand row.typed) || not (is_last rest))) wrong (breach rules.Truths row.pos is_first)))
    ∙ sym (regroup (wrong_at false (type_of_operand row.typed) rest) (if is_truth_side left && (is_truth_side (type_of_operand row.typed) || not (is_last rest)) then None else Some (breach rules.Truths row.pos is_first)) wrong))

-- the step over a row
pub goes_on : (rows : List declared_row.Row) (i : ℕ) (row : declared_row.Row) (left : Option Ty) (last : Bool) (wrong next total : Option Breach) → i < length rows → row ≡ get_or rows i row → last ≡ is_last (map row_of (drop (i + 1) rows))
    → next ≡ (if is_truth_side left && (is_truth_side (type_of_operand (operand_of row.typed)) || not last) then wrong else Some (breach rules.Truths row.pos (nat_eq i 0)))
    → or_breach (wrong_at (nat_eq i 0) left (map row_of (drop i rows))) wrong ≡ total
    → or_breach (wrong_at (nat_eq (i + 1) 0) (type_of_operand (operand_of row.typed)) (map row_of (drop (i + 1) rows))) next ≡ total
goes_on rows i row left last wrong next total lt is p q so_far =
    let later : nat_eq (i + 1) 0 ≡ false = ne_eqb (i + 1) 0 (λ e. omega (arith, e)) in
    let here : drop i rows ≡ row ∷ drop (i + 1) rows = drop-cons rows i row lt ∙ (rw (← is, add-one) refl) in
    let step = next_wrong (nat_eq i 0) last left (row_of row) (map row_of (drop (i + 1) rows)) wrong next p q in
    rw later (step ∙ ap (λ (all : List declared_row.Row). or_breach (wrong_at (nat_eq i 0) left (map row_of all)) wrong) (sym here) ∙ so_far)
