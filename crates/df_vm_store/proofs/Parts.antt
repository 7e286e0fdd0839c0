-- Rows whose operand has parts, and those that make a word with parts.
use Rattle.std.proofs.Common.{◌≡◌, ℕ, zero, suc, ◌+◌, ◌-◌, ◌<◌, ◌≤◌, ◌^◌, ℤ, pos, negsuc, Some, None, Bool, true, false, cond, List, [], ◌∷◌, ◌++◌, map, take, drop, length, get_or, refl, sym, ap, subst, ◌∙◌, arith, nat_le, nat_lt, length-append, length-take, length-drop, take-append-drop}
use Rattle.std.proofs.lemmas.Bool.{leb-true, lt-ltb, le-ltb, ltb-true}
use Rattle.std.proofs.lemmas.Option.{same_Some}
use Rattle.std.proofs.lemmas.List.{length-map, take_all, drop-drop, drop-take, get_or-map, get_or-take, get_or-drop, take-map, drop-map}
use Rattle.std.proofs.Math.Seq.{drop-append_seam}
use Rattle.df_vm_store.specs.declared.word.Word.{Word}
use Rattle.df_vm_store.specs.declared.word.Word.TheVariants as words
use Rattle.df_mach2.specs.declared.op.Op.TheVariants as op
use Rattle.df_mach2.specs.Value.{Value, Number, Data, Sequence, Null, list_of, values_of, nth, is_place, place_of, is_bound}
use Rattle.df_vm_store.specs.Numbers.{ranged, place_in, bound_in}
use Rattle.df_mach2.specs.Row.{row, found, Found, Gives, Broken, part_of, sequence_of}
use Rattle.std.specs.Prelude.{slice_set, not, ◌&&◌, int_le}
use Rattle.std.specs.Ordering.{int_eq}
use Rattle.std.specs.Int.{int_div_euclid}
use Rattle.df_mach2.specs.declared.op.Range.{Range}
use Rattle.std.proofs.lemmas.List.{set-append_right}
use Rattle.df_vm_store.specs.Meaning.{value_in, meanings, is_within, are_within, are_founded, Grows}
use Rattle.df_vm_store.proofs.Meanings.{cells_stand, cells_length, cells_added, grows_more, grows_none, grown_length, part_grows, founded_piece, within_front, within_cons}

pub listed : (vs : List Value) → list_of (values_of vs) ≡ vs
listed [] = refl
listed (v ∷ vs) = ap (λ r. v ∷ r) (listed vs)

-- so many values from a place on
abbrev pub piece : List Word → ℕ → ℕ → List Value
piece cells from count = take count (drop from (meanings cells))

pub piece_length : (cells : List Word) (from count : ℕ) → from + count ≤ length cells → length (piece cells from count) ≡ count
piece_length cells from count le =
    let a = length-take count (drop from (meanings cells)) in
    let b = length-drop from (meanings cells) in
    let n = cells_length cells in
    omega (arith, a, b, n)

pub members_length : (cells : List Word) (from count : ℕ) → from + count ≤ length cells → length (list_of (values_of (piece cells from count))) ≡ count
members_length cells from count le = ap length (listed (piece cells from count)) ∙ piece_length cells from count le

pub cell_value : (cells : List Word) (i : ℕ) (x : Word) → are_founded 0 cells ≡ true → i < length cells → x ≡ get_or cells i x → nth (meanings cells) i ≡ value_in (meanings cells) x
cell_value cells i x founded lt e =
    ap (λ (vs : List Value). nth vs i) (sym (cells_stand cells founded))
    ∙ get_or-map (value_in (meanings cells)) cells i x Null lt
    ∙ ap (value_in (meanings cells)) (sym e)

pub member_value : (cells : List Word) (from count j : ℕ) (x : Word) → are_founded 0 cells ≡ true → from + count ≤ length cells → j < count → x ≡ get_or cells (from + j) x
    → nth (list_of (values_of (piece cells from count))) j ≡ value_in (meanings cells) x
member_value cells from count j x founded le lt e =
    ap (λ (vs : List Value). nth vs j) (listed (piece cells from count))
    ∙ get_or-take count (drop from (meanings cells)) j Null lt
    ∙ get_or-drop from (meanings cells) j Null
    ∙ cell_value cells (from + j) x founded (omega arith) e

-- ---- a choice whose test is known

yes : (b : Bool) (x y : Found) → b ≡ true → cond b x y ≡ x
yes b x y e = ap (λ t. cond t x y) e

no : (b : Bool) (x y : Found) → b ≡ false → cond b x y ≡ y
no b x y e = ap (λ t. cond t x y) e

-- ---- constructors

pub part_some : (cells : List Word) (tag from count j : ℕ) (x : Word) → are_founded 0 cells ≡ true → nat_le (from + count) (length cells) ≡ true → j < count → x ≡ get_or cells (from + j) x
    → found (row (op.Part j) (value_in (meanings cells) (words.Data tag from count) ∷ [])) ≡ Gives (value_in (meanings cells) x)
part_some cells tag from count j x founded within lt e =
    let le = leb-true (from + count) (length cells) within in
    yes _ _ _ (ap (nat_lt j) (members_length cells from count le) ∙ lt-ltb j count lt)
    ∙ ap Gives (member_value cells from count j x founded le lt e)

pub part_none : (cells : List Word) (tag from count j : ℕ) → nat_le (from + count) (length cells) ≡ true → count ≤ j
    → found (row (op.Part j) (value_in (meanings cells) (words.Data tag from count) ∷ [])) ≡ Broken
part_none cells tag from count j within ge =
    let le = leb-true (from + count) (length cells) within in
    no _ _ _ (ap (nat_lt j) (members_length cells from count le) ∙ le-ltb j count ge)

-- ---- sequences

pub length_found : (cells : List Word) (from count : ℕ) → nat_le (from + count) (length cells) ≡ true
    → found (row op.Length (value_in (meanings cells) (words.Sequence from count) ∷ [])) ≡ Gives (Number (pos count))
length_found cells from count within = ap (λ n. Gives (Number (pos n))) (members_length cells from count (leb-true (from + count) (length cells) within))

given : (b : Bool) (n p : ℕ) → cond b (Some n) None ≡ Some p → (b ≡ true) × (n ≡ p)
given true n p e = (refl, same_Some n p e)
given false n p e = absurd cc

missing : (b : Bool) (n : ℕ) → cond b (Some n) None ≡ None → b ≡ false
missing true n e = absurd cc
missing false n e = refl

place_below : (i : ℤ) (count : ℕ) → is_place i count ≡ true → place_of i < count
place_below (pos n) count e = ltb-true n count e
place_below (negsuc n) count e = absurd cc

pub place_in_below : (i : ℤ) (count p : ℕ) → place_in i count ≡ Some p → p < count
place_in_below i count p e = let g = given (is_place i count) (place_of i) p e in omega (arith, place_below i count g.0, g.1)

bound_up_to : (i : ℤ) (count : ℕ) → is_bound i count ≡ true → place_of i ≤ count
bound_up_to (pos n) count e = leb-true n count e
bound_up_to (negsuc n) count e = absurd cc

pub at_some : (cells : List Word) (from count : ℕ) (i : ℤ) (p : ℕ) (x : Word) → are_founded 0 cells ≡ true → nat_le (from + count) (length cells) ≡ true → place_in i count ≡ Some p → x ≡ get_or cells (from + p) x
    → found (row op.At (value_in (meanings cells) (words.Sequence from count) ∷ Number i ∷ [])) ≡ Gives (value_in (meanings cells) x)
at_some cells from count i p x founded within is e =
    let le = leb-true (from + count) (length cells) within in
    let g = given (is_place i count) (place_of i) p is in
    yes _ _ _ (ap (is_place i) (members_length cells from count le) ∙ g.0)
    ∙ ap (λ k. Gives (nth (list_of (values_of (piece cells from count))) k)) g.1
    ∙ ap Gives (member_value cells from count p x founded le (omega (arith, place_below i count g.0, g.1)) e)

pub at_none : (cells : List Word) (from count : ℕ) (i : ℤ) → nat_le (from + count) (length cells) ≡ true → place_in i count ≡ None
    → found (row op.At (value_in (meanings cells) (words.Sequence from count) ∷ Number i ∷ [])) ≡ Broken
at_none cells from count i within is =
    let le = leb-true (from + count) (length cells) within in
    no _ _ _ (ap (is_place i) (members_length cells from count le) ∙ missing (is_place i count) (place_of i) is)

pub take_twice : (n m : ℕ) (xs : List Value) → n ≤ m → take n (take m xs) ≡ take n xs
take_twice zero m xs le = refl
take_twice (suc n) zero xs le = absurd (omega arith)
take_twice (suc n) (suc m) [] le = refl
take_twice (suc n) (suc m) (x ∷ xs) le = ap (λ r. x ∷ r) (take_twice n m xs (omega arith))

-- a piece of a piece is a piece
piece_of_piece : (vs : List Value) (from count p q : ℕ) → p ≤ q → q ≤ count → take (q - p) (drop p (take count (drop from vs))) ≡ take (q - p) (drop (from + p) vs)
piece_of_piece vs from count p q le in_count =
    let rest : ℕ = count - p in
    let whole : count ≡ p + rest = omega arith in
    ap (λ n. take (q - p) (drop p (take n (drop from vs)))) whole
    ∙ ap (take (q - p)) (drop-take p rest (drop from vs))
    ∙ take_twice (q - p) rest (drop p (drop from vs)) (omega arith)
    ∙ ap (take (q - p)) (drop-drop p from vs)

pub slice_some : (cells : List Word) (from count : ℕ) (i j : ℤ) (p q : ℕ) → nat_le (from + count) (length cells) ≡ true → bound_in j count ≡ Some q → bound_in i q ≡ Some p → length cells < 2 ^ 63
    → found (row op.Slice (value_in (meanings cells) (words.Sequence from count) ∷ Number i ∷ Number j ∷ [])) ≡ Gives (value_in (meanings cells) (words.Sequence (from + p) (q - p)))
slice_some cells from count i j p q within second first small =
    let le = leb-true (from + count) (length cells) within in
    let g = given (is_bound j count) (place_of j) q second in
    let h = given (is_bound i q) (place_of i) p first in
    let past_start = bound_up_to i q h.0 in
    let past_end = bound_up_to j count g.0 in
    let part : List Value = take (q - p) (drop (from + p) (meanings cells)) in
    let members : part_of (list_of (values_of (piece cells from count))) (place_of i) (place_of j) ≡ part =
    ap (λ n. part_of (list_of (values_of (piece cells from count))) n (place_of j)) h.1
    ∙ ap (λ n. part_of (list_of (values_of (piece cells from count))) p n) g.1
    ∙ ap (λ (vs : List Value). part_of vs p q) (listed (piece cells from count))
    ∙ piece_of_piece (meanings cells) from count p q (omega (arith, past_start, h.1)) (omega (arith, past_end, g.1)) in
    let long : length part ≡ q - p = omega (arith, length-take (q - p) (drop (from + p) (meanings cells)), length-drop (from + p) (meanings cells), cells_length cells, past_end, past_start, g.1, h.1) in
    yes _ _ _ (ap (is_bound j) (members_length cells from count le) ∙ g.0)
    ∙ yes _ _ _ (ap (is_bound i) g.1 ∙ h.0)
    ∙ ap (λ us. found (sequence_of us)) members
    ∙ yes _ _ _ (lt-ltb (length part) (2 ^ 63) (omega (arith, long, past_end, g.1)))

pub slice_past : (cells : List Word) (from count : ℕ) (i j : ℤ) → nat_le (from + count) (length cells) ≡ true → bound_in j count ≡ None
    → found (row op.Slice (value_in (meanings cells) (words.Sequence from count) ∷ Number i ∷ Number j ∷ [])) ≡ Broken
slice_past cells from count i j within second =
    let le = leb-true (from + count) (length cells) within in
    no _ _ _ (ap (is_bound j) (members_length cells from count le) ∙ missing (is_bound j count) (place_of j) second)

pub slice_crossed : (cells : List Word) (from count : ℕ) (i j : ℤ) (q : ℕ) → nat_le (from + count) (length cells) ≡ true → bound_in j count ≡ Some q → bound_in i q ≡ None
    → found (row op.Slice (value_in (meanings cells) (words.Sequence from count) ∷ Number i ∷ Number j ∷ [])) ≡ Broken
slice_crossed cells from count i j q within second first =
    let le = leb-true (from + count) (length cells) within in
    let g = given (is_bound j count) (place_of j) q second in
    yes _ _ _ (ap (is_bound j) (members_length cells from count le) ∙ g.0)
    ∙ no _ _ _ (ap (is_bound i) g.1 ∙ missing (is_bound i q) (place_of i) first)

-- ---- what is made of words that are put behind the cells

pub kept : (cells new ws : List Word) → new ≡ cells ++ ws → are_within (length cells) ws ≡ true → meanings new ≡ meanings cells ++ map (value_in (meanings cells)) ws
kept cells new ws e h = ap meanings e ∙ cells_added cells ws h

pub kept_grows : (cells new ws : List Word) → new ≡ cells ++ ws → are_within (length cells) ws ≡ true → Grows (meanings cells) (meanings new)
kept_grows cells new ws e h = subst (λ (vs : List Value). Grows (meanings cells) vs) (sym (kept cells new ws e h)) (grows_more (meanings cells) (map (value_in (meanings cells)) ws))

pub kept_piece : (cells new ws : List Word) (from : ℕ) → from ≡ length cells → new ≡ cells ++ ws → are_within (length cells) ws ≡ true
    → take (length ws) (drop from (meanings new)) ≡ map (value_in (meanings cells)) ws
kept_piece cells new ws from at e h =
    let vs : List Value = map (value_in (meanings cells)) ws in
    ap (λ (us : List Value). take (length ws) (drop from us)) (kept cells new ws e h)
    ∙ ap (λ n. take (length ws) (drop n (meanings cells ++ vs))) (at ∙ sym (cells_length cells))
    ∙ ap (take (length ws)) (drop-append_seam (meanings cells) vs)
    ∙ take_all (length ws) vs (omega (arith, length-map ws (value_in (meanings cells))))

pub construct_found : (cells new ws : List Word) (tag from : ℕ) → from ≡ length cells → new ≡ cells ++ ws → are_within (length cells) ws ≡ true → length ws < 2 ^ 63
    → found (row (op.Construct tag (length ws)) (map (value_in (meanings cells)) ws)) ≡ Gives (value_in (meanings new) (words.Data tag from (length ws)))
construct_found cells new ws tag from at e h small =
    yes _ _ _ (ap (λ n. nat_lt n (2 ^ 63)) (length-map ws (value_in (meanings cells))) ∙ lt-ltb (length ws) (2 ^ 63) small)
    ∙ ap (λ (vs : List Value). Gives (Data tag (values_of vs))) (sym (kept_piece cells new ws from at e h))

pub sequence_found : (cells new ws : List Word) (from : ℕ) → from ≡ length cells → new ≡ cells ++ ws → are_within (length cells) ws ≡ true → length ws < 2 ^ 63
    → found (row (op.Sequence (length ws)) (map (value_in (meanings cells)) ws)) ≡ Gives (value_in (meanings new) (words.Sequence from (length ws)))
sequence_found cells new ws from at e h small =
    yes _ _ _ (ap (λ n. nat_lt n (2 ^ 63)) (length-map ws (value_in (meanings cells))) ∙ lt-ltb (length ws) (2 ^ 63) small)
    ∙ ap (λ (vs : List Value). Gives (Sequence (values_of vs))) (sym (kept_piece cells new ws from at e h))

-- ---- numbers

given_number : (b : Bool) (n p : ℤ) → cond b (Some n) None ≡ Some p → (b ≡ true) × (n ≡ p)
given_number true n p e = (refl, same_Some n p e)
given_number false n p e = absurd cc

pub divided : (r : Range) (a b n : ℤ) → int_eq b (pos 0) ≡ false → ranged r (int_div_euclid a b) ≡ Some n → found (row (op.Divide r) (Number a ∷ Number b ∷ [])) ≡ Gives (Number n)
divided r a b n some e =
    let q : ℤ = int_div_euclid a b in
    let g = given_number (int_le r.low q && int_le q r.high) q n e in
    yes _ _ _ (ap not some) ∙ yes _ _ _ g.0 ∙ ap (λ m. Gives (Number m)) g.1

-- ---- one sequence behind another

pub grows_then : (xs ys zs : List Value) → Grows xs ys → Grows ys zs → Grows xs zs
grows_then xs ys zs g h =
    let le = grown_length xs ys g in
    record { by = sym (take_twice (length xs) (length ys) zs le) ∙ ap (take (length xs)) h.by ∙ g.by }

pub map_piece : (cells : List Word) (from count : ℕ) → are_founded 0 cells ≡ true → map (value_in (meanings cells)) (take count (drop from cells)) ≡ piece cells from count
map_piece cells from count founded =
    sym (take-map (value_in (meanings cells)) count (drop from cells))
    ∙ ap (take count) (sym (drop-map (value_in (meanings cells)) from cells))
    ∙ ap (λ (vs : List Value). take count (drop from vs)) (cells_stand cells founded)

pub piece_grows : (cells new : List Word) (from count : ℕ) → Grows (meanings cells) (meanings new) → from + count ≤ length cells → piece new from count ≡ piece cells from count
piece_grows cells new from count g le = part_grows (meanings cells) (meanings new) from count g.by (omega (arith, cells_length cells))

-- a piece that is laid behind the cells
pub repeated : (cells new : List Word) (from count start : ℕ) → are_founded 0 cells ≡ true → from + count ≤ length cells → start ≡ length cells → new ≡ cells ++ take count (drop from cells)
    → piece new start count ≡ piece cells from count
repeated cells new from count start founded le at e =
    let ws : List Word = take count (drop from cells) in
    let long : length ws ≡ count = omega (arith, length-take count (drop from cells), length-drop from cells) in
    ap (λ n. take n (drop start (meanings new))) (sym long)
    ∙ kept_piece cells new ws start at e (founded_piece cells from count founded)
    ∙ map_piece cells from count founded

pub repeated_grows : (cells new : List Word) (from count : ℕ) → are_founded 0 cells ≡ true → new ≡ cells ++ take count (drop from cells) → Grows (meanings cells) (meanings new)
repeated_grows cells new from count founded e = kept_grows cells new (take count (drop from cells)) e (founded_piece cells from count founded)

two_pieces : (vs : List Value) (from count more : ℕ) → take (count + more) (drop from vs) ≡ take count (drop from vs) ++ take more (drop (from + count) vs)
two_pieces vs from count more =
    let us : List Value = drop from vs in
    sym (take-append-drop count (take (count + more) us))
    ∙ ap (λ (x : List Value). x ++ drop count (take (count + more) us)) (take_twice count (count + more) us (omega arith))
    ∙ ap (λ (x : List Value). take count us ++ x) (drop-take count more us ∙ ap (take more) (drop-drop count from vs))

joined : (cells new : List Word) (from count other more start : ℕ) → from + count ≤ length cells → other + more ≤ length cells → count + more < 2 ^ 63
    → piece new start (count + more) ≡ piece cells from count ++ piece cells other more
    → found (row op.Join (value_in (meanings cells) (words.Sequence from count) ∷ value_in (meanings cells) (words.Sequence other more) ∷ [])) ≡ Gives (value_in (meanings new) (words.Sequence start (count + more)))
joined cells new from count other more start le ri small e =
    let both : List Value = piece cells from count ++ piece cells other more in
    let long : length both ≡ count + more = omega (arith, length-append (piece cells from count) (piece cells other more), piece_length cells from count le, piece_length cells other more ri) in
    let lists : list_of (values_of (piece cells from count)) ++ list_of (values_of (piece cells other more)) ≡ both =
    ap (λ (x : List Value). x ++ list_of (values_of (piece cells other more))) (listed (piece cells from count)) ∙ ap (λ (x : List Value). piece cells from count ++ x) (listed (piece cells other more)) in
    ap (λ (x : List Value). found (sequence_of x)) lists
    ∙ yes _ _ _ (ap (λ n. nat_lt n (2 ^ 63)) long ∙ lt-ltb (count + more) (2 ^ 63) small)
    ∙ ap (λ (x : List Value). Gives (Sequence (values_of x))) (sym e)

-- they stand side by side
pub join_beside : (cells : List Word) (from count other more : ℕ) → nat_le (from + count) (length cells) ≡ true → nat_le (other + more) (length cells) ≡ true → from + count ≡ other → length cells < 2 ^ 63
    → found (row op.Join (value_in (meanings cells) (words.Sequence from count) ∷ value_in (meanings cells) (words.Sequence other more) ∷ [])) ≡ Gives (value_in (meanings cells) (words.Sequence from (count + more)))
join_beside cells from count other more left right at small =
    let le = leb-true (from + count) (length cells) left in
    let ri = leb-true (other + more) (length cells) right in
    joined cells cells from count other more from le ri (omega arith)
    (two_pieces (meanings cells) from count more ∙ ap (λ n. piece cells from count ++ piece cells n more) at)

-- the left one stands at the end of mid, and the right one is laid behind it
pub join_laid : (cells mid new : List Word) (from count other more start : ℕ) → are_founded 0 mid ≡ true → nat_le (from + count) (length cells) ≡ true → nat_le (other + more) (length cells) ≡ true
    → Grows (meanings cells) (meanings mid) → start + count ≡ length mid → piece mid start count ≡ piece cells from count → new ≡ mid ++ take more (drop other mid) → length new < 2 ^ 63
    → found (row op.Join (value_in (meanings cells) (words.Sequence from count) ∷ value_in (meanings cells) (words.Sequence other more) ∷ [])) ≡ Gives (value_in (meanings new) (words.Sequence start (count + more)))
join_laid cells mid new from count other more start founded left right grows at first e small =
    let le = leb-true (from + count) (length cells) left in
    let ri = leb-true (other + more) (length cells) right in
    let wide : length cells ≤ length mid = omega (arith, cells_length cells, cells_length mid, grown_length (meanings cells) (meanings mid) grows) in
    let ws : List Word = take more (drop other mid) in
    let long : length ws ≡ more = omega (arith, length-take more (drop other mid), length-drop other mid) in
    let all : length new ≡ length mid + more = ap length e ∙ length-append mid ws ∙ ap (λ n. length mid + n) long in
    let later = repeated_grows mid new other more founded e in
    joined cells new from count other more start le ri (omega arith)
    (two_pieces (meanings new) start count more
    ∙ ap (λ (x : List Value). x ++ piece new (start + count) more) (piece_grows mid new start count later (omega arith) ∙ first)
    ∙ ap (λ (x : List Value). piece cells from count ++ x) (repeated mid new other more (start + count) founded (omega arith) at e ∙ piece_grows cells mid other more grows ri))

pub grows_same : (cells new : List Word) → new ≡ cells → Grows (meanings cells) (meanings new)
grows_same cells new e = subst (λ (ws : List Word). Grows (meanings cells) (meanings ws)) (sym e) (grows_none (meanings cells))

-- ---- a sequence with another member

map_set : (m : Word → Value) (ws : List Word) (i : ℕ) (w : Word) → map m (slice_set ws i w) ≡ slice_set (map m ws) i (m w)
map_set m [] i w = refl
map_set m (x ∷ ws) zero w = refl
map_set m (x ∷ ws) (suc i) w = ap (λ r. m x ∷ r) (map_set m ws i w)

length_set : {A : Type 0} (xs : List A) (i : ℕ) (x : A) → length (slice_set xs i x) ≡ length xs
length_set [] i x = refl
length_set (y ∷ xs) zero x = refl
length_set (y ∷ xs) (suc i) x = ap suc (length_set xs i x)

pub within_set : (n : ℕ) (ws : List Word) (i : ℕ) (w : Word) → are_within n ws ≡ true → is_within n w ≡ true → are_within n (slice_set ws i w) ≡ true
within_set n [] i w h k = h
within_set n (x ∷ ws) zero w h k = within_front n w ws k (within_cons n x ws h).1
within_set n (x ∷ ws) (suc i) w h k = let p = within_cons n x ws h in within_front n x (slice_set ws i w) p.0 (within_set n ws i w p.1 k)

-- a word is written behind the cells that stood
pub revised : (cells mid new ws : List Word) (start place : ℕ) (w : Word) → mid ≡ cells ++ ws → start ≡ length cells → new ≡ slice_set mid (start + place) w → new ≡ cells ++ slice_set ws place w
revised cells mid new ws start place w laid at e =
    let past : start + place - length cells ≡ place = omega (arith, at) in
    e ∙ ap (λ l. slice_set l (start + place) w) laid ∙ set-append_right cells ws (length cells) (start + place) w refl (omega (arith, at)) ∙ ap (λ n. cells ++ slice_set ws n w) past

pub update_found : (cells new : List Word) (from count start p : ℕ) (i : ℤ) (w : Word) → are_founded 0 cells ≡ true → nat_le (from + count) (length cells) ≡ true → is_within (length cells) w ≡ true → place_in i count ≡ Some p
    → new ≡ cells ++ slice_set (take count (drop from cells)) p w → start ≡ length cells → length new < 2 ^ 63
    → found (row op.Update (value_in (meanings cells) (words.Sequence from count) ∷ Number i ∷ value_in (meanings cells) w ∷ [])) ≡ Gives (value_in (meanings new) (words.Sequence start count))
update_found cells new from count start p i w founded within here is e at small =
    let vs : List Value = meanings cells in
    let le = leb-true (from + count) (length cells) within in
    let g = given (is_place i count) (place_of i) p is in
    let part : List Word = take count (drop from cells) in
    let ws : List Word = slice_set part p w in
    let wide : length ws ≡ count = length_set part p w ∙ omega (arith, length-take count (drop from cells), length-drop from cells) in
    let inside = within_set (length cells) part p w (founded_piece cells from count founded) here in
    let members : List Value = slice_set (piece cells from count) p (value_in vs w) in
    let made : take count (drop start (meanings new)) ≡ members =
    ap (λ n. take n (drop start (meanings new))) (sym wide) ∙ kept_piece cells new ws start at e inside ∙ map_set (value_in vs) part p w ∙ ap (λ us. slice_set us p (value_in vs w)) (map_piece cells from count founded) in
    yes _ _ _ (ap (is_place i) (members_length cells from count le) ∙ g.0)
    ∙ ap (λ us. found (sequence_of (slice_set us (place_of i) (value_in vs w)))) (listed (piece cells from count))
    ∙ ap (λ n. found (sequence_of (slice_set (piece cells from count) n (value_in vs w)))) g.1
    ∙ yes _ _ _ (ap (λ n. nat_lt n (2 ^ 63)) (length_set (piece cells from count) p (value_in vs w) ∙ piece_length cells from count le) ∙ lt-ltb count (2 ^ 63) (omega (arith, ap length e, length-append cells ws, wide)))
    ∙ ap (λ us. Gives (Sequence (values_of us))) (sym made)

pub update_missed : (cells : List Word) (from count : ℕ) (i : ℤ) (v : Value) → nat_le (from + count) (length cells) ≡ true → place_in i count ≡ None
    → found (row op.Update (value_in (meanings cells) (words.Sequence from count) ∷ Number i ∷ v ∷ [])) ≡ Broken
update_missed cells from count i v within is =
    no _ _ _ (ap (is_place i) (members_length cells from count (leb-true (from + count) (length cells) within)) ∙ missing (is_place i count) (place_of i) is)
