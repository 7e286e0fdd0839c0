-- Marked values stand where the ranks say.
use Rattle.std.proofs.Common.{◌≡◌, ℕ, zero, suc, ◌+◌, ◌<◌, ◌≤◌, Bool, true, false, cond, List, [], ◌∷◌, ◌++◌, map, take, drop, length, get_or, Some, slice_get, nat_le, refl, sym, ap, subst, ◌∙◌, arith, length-append, append_assoc, drop-cons, add-one}
use Rattle.std.proofs.lemmas.List.{drop_all, map-append}
use Rattle.std.proofs.Math.Seq.{take-suc}
use Rattle.std.proofs.lemmas.Option.{same_Some}
use Rattle.std.proofs.lemmas.Bool.{leb-true}
use Rattle.df_vm_store.specs.declared.word.Word.{Word}
use Rattle.df_vm_store.specs.declared.word.Word.TheVariants as words
use Rattle.df_mach2.specs.Value.{Value, Data, Sequence, Null, values_of}
use Rattle.df_vm_store.specs.Meaning.{value_in, meanings, is_within, are_within, are_founded, Grows}
use Rattle.df_vm_store.specs.Compact.{kept, rank, ranks_from}
use Rattle.df_vm_store.proofs.Meanings.{cells_length, cells_added, value_grows, within_front, within_both, within_nil}
use Rattle.df_vm_store.proofs.Parts.{cell_value}

pub rank_le : (bs : List Bool) (n : ℕ) → rank bs n ≤ n
unfolding rank
rank_le [] n = omega arith
rank_le (b ∷ bs) zero = omega arith
rank_le (true ∷ bs) (suc n) = let h = rank_le bs n in omega (arith, h)
rank_le (false ∷ bs) (suc n) = let h = rank_le bs n in omega (arith, h)

rank_zero : (bs : List Bool) → rank bs 0 ≡ 0
unfolding rank
rank_zero [] = refl
rank_zero (b ∷ bs) = refl

pub ranks_got : (n : ℕ) (bs : List Bool) (k r : ℕ) → slice_get (ranks_from n bs) k ≡ Some r → r ≡ n + rank bs k
unfolding ranks_from rank
ranks_got n [] zero r e = let h = same_Some n r e in omega (arith, h)
ranks_got n [] (suc k) r e = absurd cc
ranks_got n (b ∷ bs) zero r e = let h = same_Some n r e in omega (arith, h)
ranks_got n (true ∷ bs) (suc k) r e = let h = ranks_got (n + 1) bs k r e in omega (arith, h)
ranks_got n (false ∷ bs) (suc k) r e = let h = ranks_got n bs k r e in omega (arith, h)

ranks_cons : (n : ℕ) (b : Bool) (cs : List Bool) → ranks_from n (b ∷ cs) ≡ n ∷ ranks_from (cond b (n + 1) n) cs
unfolding ranks_from
ranks_cons n b cs = refl

ranks_nil : (n : ℕ) → ranks_from n [] ≡ n ∷ []
unfolding ranks_from
ranks_nil n = refl

-- the first ones, where all of them are marked
first_kept : (bs : List Bool) (vs : List Value) (count : ℕ) → rank bs count ≡ count → count ≤ length vs → take count (kept bs vs) ≡ take count vs
unfolding rank kept
first_kept bs vs zero e le = refl
first_kept [] vs (suc count) e le = absurd (omega (arith, e))
first_kept (b ∷ bs) [] (suc count) e le = absurd (omega arith)
first_kept (true ∷ bs) (v ∷ vs) (suc count) e le = ap (λ r. v ∷ r) (first_kept bs vs count (omega (arith, e)) (omega arith))
first_kept (false ∷ bs) (v ∷ vs) (suc count) e le = let h = rank_le bs count in absurd (omega (arith, e, h))

-- so many from one on, where all of them are marked
pub piece_kept : (bs : List Bool) (vs : List Value) (from count : ℕ) → rank bs (from + count) ≡ rank bs from + count → from + count ≤ length vs
    → take count (drop (rank bs from) (kept bs vs)) ≡ take count (drop from vs)
unfolding rank kept
piece_kept bs vs zero count e le =
    let none = rank_zero bs in
    let all : rank bs count ≡ count = ap (rank bs) (omega arith) ∙ e ∙ omega (arith, none) in
    ap (λ n. take count (drop n (kept bs vs))) none ∙ first_kept bs vs count all (omega arith)
piece_kept [] vs (suc from) zero e le = refl
piece_kept [] vs (suc from) (suc count) e le = absurd (omega (arith, e))
piece_kept (b ∷ bs) [] (suc from) count e le = absurd (omega arith)
piece_kept (true ∷ bs) (v ∷ vs) (suc from) count e le =
    let split : suc from + count ≡ suc (from + count) = omega arith in
    let longer : rank (true ∷ bs) (suc from + count) ≡ 1 + rank bs (from + count) = ap (rank (true ∷ bs)) split in
    let here : rank (true ∷ bs) (suc from) ≡ 1 + rank bs from = refl in
    let all : rank bs (from + count) ≡ rank bs from + count = omega (arith, e, longer, here) in
    let next : 1 + rank bs from ≡ suc (rank bs from) = omega arith in
    ap (λ n. take count (drop n (v ∷ kept bs vs))) next ∙ piece_kept bs vs from count all (omega arith)
piece_kept (false ∷ bs) (v ∷ vs) (suc from) count e le =
    let split : suc from + count ≡ suc (from + count) = omega arith in
    let longer : rank (false ∷ bs) (suc from + count) ≡ 0 + rank bs (from + count) = ap (rank (false ∷ bs)) split in
    let here : rank (false ∷ bs) (suc from) ≡ 0 + rank bs from = refl in
    let all : rank bs (from + count) ≡ rank bs from + count = omega (arith, e, longer, here) in
    let next : 0 + rank bs from ≡ rank bs from = omega arith in
    ap (λ n. take count (drop n (kept bs vs))) next ∙ piece_kept bs vs from count all (omega arith)

pub got_piece : (places : List ℕ) (bs : List Bool) (vs : List Value) (from count place : ℕ) → places ≡ ranks_from 0 bs → slice_get places from ≡ Some place → slice_get places (from + count) ≡ Some (place + count) → from + count ≤ length vs
    → take count (drop place (kept bs vs)) ≡ take count (drop from vs)
got_piece places bs vs from count place ranked first last le =
    let a = ranks_got 0 bs from place (ap (λ (l : List ℕ). slice_get l from) (sym ranked) ∙ first) in
    let b = ranks_got 0 bs (from + count) (place + count) (ap (λ (l : List ℕ). slice_get l (from + count)) (sym ranked) ∙ last) in
    let at : place ≡ rank bs from = omega (arith, a) in
    ap (λ n. take count (drop n (kept bs vs))) at ∙ piece_kept bs vs from count (omega (arith, a, b)) le

pub data_kept : (cells : List Word) (places : List ℕ) (bs : List Bool) (tag from count place : ℕ) → places ≡ ranks_from 0 bs → slice_get places from ≡ Some place → slice_get places (from + count) ≡ Some (place + count) → nat_le (from + count) (length cells) ≡ true
    → value_in (kept bs (meanings cells)) (words.Data tag place count) ≡ value_in (meanings cells) (words.Data tag from count)
data_kept cells places bs tag from count place ranked first last within =
    ap (λ (us : List Value). Data tag (values_of us)) (got_piece places bs (meanings cells) from count place ranked first last (omega (arith, cells_length cells, leb-true (from + count) (length cells) within)))

pub sequence_kept : (cells : List Word) (places : List ℕ) (bs : List Bool) (from count place : ℕ) → places ≡ ranks_from 0 bs → slice_get places from ≡ Some place → slice_get places (from + count) ≡ Some (place + count) → nat_le (from + count) (length cells) ≡ true
    → value_in (kept bs (meanings cells)) (words.Sequence place count) ≡ value_in (meanings cells) (words.Sequence from count)
sequence_kept cells places bs from count place ranked first last within =
    ap (λ (us : List Value). Sequence (values_of us)) (got_piece places bs (meanings cells) from count place ranked first last (omega (arith, cells_length cells, leb-true (from + count) (length cells) within)))

-- a marked value stands where the rank says
value_kept : (bs : List Bool) (vs : List Value) (i : ℕ) (d : Value) → i < length vs → slice_get bs i ≡ Some true → take (rank bs i + 1) (kept bs vs) ≡ take (rank bs i) (kept bs vs) ++ get_or vs i d ∷ []
unfolding rank kept
value_kept bs [] i d lt e = absurd (omega arith)
value_kept [] (v ∷ vs) i d lt e = absurd cc
value_kept (b ∷ bs) (v ∷ vs) zero d lt e =
    let is : b ≡ true = same_Some b true e in
    subst (λ c. take (0 + 1) (kept (c ∷ bs) (v ∷ vs)) ≡ v ∷ []) (sym is) refl
value_kept (true ∷ bs) (v ∷ vs) (suc i) d lt e =
    let more : 1 + rank bs i + 1 ≡ suc (rank bs i + 1) = omega arith in
    let same : suc (rank bs i) ≡ 1 + rank bs i = omega arith in
    ap (λ n. take n (v ∷ kept bs vs)) more ∙ ap (λ r. v ∷ r) (value_kept bs vs i d (omega arith) e) ∙ ap (λ n. take n (v ∷ kept bs vs) ++ get_or vs i d ∷ []) same
value_kept (false ∷ bs) (v ∷ vs) (suc i) d lt e =
    let more : 0 + rank bs i + 1 ≡ rank bs i + 1 = omega arith in
    let same : rank bs i ≡ 0 + rank bs i = omega arith in
    ap (λ n. take n (kept bs vs)) more ∙ value_kept bs vs i d (omega arith) e ∙ ap (λ n. take n (kept bs vs) ++ get_or vs i d ∷ []) same

-- the next marked cell is copied
pub copied_more : (cells copy new : List Word) (places : List ℕ) (bs : List Bool) (i place : ℕ) (w x : Word) → Grows (meanings copy) (kept bs (meanings cells)) → are_founded 0 cells ≡ true → places ≡ ranks_from 0 bs
    → slice_get bs i ≡ Some true → slice_get places i ≡ Some (length copy) → i < length cells → w ≡ get_or cells i w
    → value_in (kept bs (meanings cells)) x ≡ value_in (meanings cells) w → is_within (length copy) x ≡ true → new ≡ copy ++ x ∷ []
    → Grows (meanings new) (kept bs (meanings cells))
copied_more cells copy new places bs i place w x grows founded ranked marked at lt e value within is =
    let vs : List Value = meanings cells in
    let us : List Value = meanings copy in
    let long = cells_length copy in
    let a = ranks_got 0 bs i (length copy) (ap (λ (l : List ℕ). slice_get l i) (sym ranked) ∙ at) in
    let front : rank bs i ≡ length us = omega (arith, a, long) in
    let in_us : is_within (length us) x ≡ true = ap (λ n. is_within n x) long ∙ within in
    let all : meanings new ≡ us ++ value_in us x ∷ [] = ap meanings is ∙ cells_added copy (x ∷ []) (within_front (length copy) x [] within (within_nil (length copy))) in
    let more : length (meanings new) ≡ rank bs i + 1 = ap length all ∙ length-append us (value_in us x ∷ []) ∙ omega (arith, front) in
    let read : get_or vs i Null ≡ value_in us x = cell_value cells i w founded lt e ∙ sym value ∙ value_grows us (kept bs vs) x grows in_us in
    record {
      by = ap (λ n. take n (kept bs vs)) more ∙ value_kept bs vs i Null (omega (arith, cells_length cells)) marked
          ∙ ap (λ n. take n (kept bs vs) ++ get_or vs i Null ∷ []) front ∙ ap (λ r. r ++ get_or vs i Null ∷ []) grows.by ∙ ap (λ (v : Value). us ++ v ∷ []) read ∙ sym all;
    }

got_or : (ws : List Word) (i : ℕ) (w : Word) → slice_get ws i ≡ Some w → (i < length ws) × (w ≡ get_or ws i w)
got_or [] i w e = absurd cc
got_or (x ∷ ws) zero w e = (omega arith, sym (same_Some x w e))
got_or (x ∷ ws) (suc i) w e = let r = got_or ws i w e in (omega (arith, r.0), r.1)

pub copied_next : (cells copy new : List Word) (places : List ℕ) (bs : List Bool) (i : ℕ) (w x : Word) → Grows (meanings copy) (kept bs (meanings cells)) → are_founded 0 cells ≡ true → places ≡ ranks_from 0 bs
    → slice_get bs i ≡ Some true → slice_get places i ≡ Some (length copy) → Some w ≡ slice_get cells i
    → value_in (kept bs (meanings cells)) x ≡ value_in (meanings cells) w → is_within (length copy) x ≡ true → new ≡ copy ++ x ∷ []
    → Grows (meanings new) (kept bs (meanings cells))
copied_next cells copy new places bs i w x grows founded ranked marked at e value within is =
    let r = got_or cells i w (sym e) in
    copied_more cells copy new places bs i 0 w x grows founded ranked marked at r.0 r.1 value within is

pub copied_none : (copy : List Word) (us : List Value) → copy ≡ [] → Grows (meanings copy) us
copied_none copy us e =
    let n : length (meanings copy) ≡ 0 = omega (arith, cells_length copy, ap length e) in
    record { by = ap (λ k. take k us) n ∙ sym (empty (meanings copy) n) }
  where
    empty : (vs : List Value) → length vs ≡ 0 → vs ≡ []
    empty [] h = refl
    empty (v ∷ vs) h = absurd (omega (arith, h))

pub ranks_step : (ps new all : List ℕ) (total next i : ℕ) (bs : List Bool) (d : Bool) → ps ++ ranks_from total (drop i bs) ≡ all → i < length bs → new ≡ ps ++ total ∷ [] → next ≡ cond (get_or bs i d) (total + 1) total
    → new ++ ranks_from next (drop (i + 1) bs) ≡ all
ranks_step ps new all total next i bs d e lt is at =
    let here : drop i bs ≡ get_or bs i d ∷ drop (i + 1) bs = rw (add-one) (drop-cons bs i d lt) in
    ap (λ (l : List ℕ). l ++ ranks_from next (drop (i + 1) bs)) is ∙ append_assoc ps (total ∷ []) (ranks_from next (drop (i + 1) bs))
    ∙ ap (λ n. ps ++ total ∷ ranks_from n (drop (i + 1) bs)) at
    ∙ ap (λ (l : List ℕ). ps ++ l) (sym (ranks_cons total (get_or bs i d) (drop (i + 1) bs)))
    ∙ ap (λ (l : List Bool). ps ++ ranks_from total l) (sym here) ∙ e

pub ranks_end : (ps new all : List ℕ) (total i : ℕ) (bs : List Bool) → ps ++ ranks_from total (drop i bs) ≡ all → length bs ≤ i → new ≡ ps ++ total ∷ [] → new ≡ all
ranks_end ps new all total i bs e le is =
    is ∙ ap (λ (l : List ℕ). ps ++ l) (sym (ranks_nil total)) ∙ ap (λ (l : List Bool). ps ++ ranks_from total l) (sym (drop_all i bs le)) ∙ e

pub carried_more : (us vs ks : List Value) (ms new ws : List Word) (i : ℕ) (d x : Word) → map (value_in us) ms ≡ map (value_in vs) (take i ws) → i < length ws → new ≡ ms ++ x ∷ []
    → Grows us ks → is_within (length us) x ≡ true → value_in ks x ≡ value_in vs (get_or ws i d) → map (value_in us) new ≡ map (value_in vs) (take (i + 1) ws)
carried_more us vs ks ms new ws i d x e lt is grows within value =
    let more : take (i + 1) ws ≡ take i ws ++ get_or ws i d ∷ [] = rw (add-one) (take-suc ws i d lt) in
    ap (map (value_in us)) is ∙ map-append (value_in us) ms (x ∷ [])
    ∙ ap (λ (l : List Value). l ++ value_in us x ∷ []) e
    ∙ ap (λ (v : Value). map (value_in vs) (take i ws) ++ v ∷ []) (sym (value_grows us ks x grows within) ∙ value)
    ∙ sym (ap (map (value_in vs)) more ∙ map-append (value_in vs) (take i ws) (get_or ws i d ∷ []))

pub within_more_word : (n : ℕ) (ms new : List Word) (x : Word) → new ≡ ms ++ x ∷ [] → are_within n ms ≡ true → is_within n x ≡ true → are_within n new ≡ true
within_more_word n ms new x e h k = ap (are_within n) e ∙ within_both n ms (x ∷ []) h (within_front n x [] k (within_nil n))
