-- Cells that are added keep the values of the words that stood; each cell has its value.
use Rattle.std.proofs.Common.{◌≡◌, ℕ, zero, suc, ◌+◌, ◌<◌, ◌≤◌, Bool, true, false, List, [], ◌∷◌, ◌++◌, map, take, drop, length, get_or, refl, sym, ap, ◌∙◌, arith, cond, length-append, length-take, append_assoc}
use Rattle.std.specs.List.{list_all}
use Rattle.std.proofs.lemmas.Bool.{and_parts, and_from, leb-true, le-leb}
use Rattle.std.proofs.lemmas.List.Folds.{list_all-append}
use Rattle.std.proofs.Math.Seq.{take-append_seam, take-length}
use Rattle.df_vm_store.specs.declared.word.Word.{Word}
use Rattle.df_vm_store.specs.declared.word.Word.TheVariants as words
use Rattle.df_mach2.specs.Value.{Value, Data, Sequence, values_of}
use Rattle.df_vm_store.specs.Meaning.{value_in, meanings_from, meanings, is_within, are_within, are_founded, Grows}

-- ---- tests

pub within_more : (n m : ℕ) (w : Word) → n ≤ m → is_within n w ≡ true → is_within m w ≡ true
within_more n m (words.Number k) le h = refl
within_more n m (words.Truth b) le h = refl
within_more n m (words.Char c) le h = refl
within_more n m words.Null le h = refl
within_more n m (words.Reference r) le h = refl
within_more n m (words.Data tag from count) le h = le-leb (from + count) m (omega (arith, leb-true (from + count) n h))
within_more n m (words.Sequence from count) le h = le-leb (from + count) m (omega (arith, leb-true (from + count) n h))

pub within_nil : (n : ℕ) → are_within n [] ≡ true
unfolding are_within
within_nil n = refl

pub within_cons : (n : ℕ) (w : Word) (ws : List Word) → are_within n (w ∷ ws) ≡ true → (is_within n w ≡ true) × (are_within n ws ≡ true)
unfolding are_within
within_cons n w ws h = and_parts (is_within n w) (list_all (is_within n) ws) h

pub within_front : (n : ℕ) (w : Word) (ws : List Word) → is_within n w ≡ true → are_within n ws ≡ true → are_within n (w ∷ ws) ≡ true
unfolding are_within
within_front n w ws h all = and_from (is_within n w) (list_all (is_within n) ws) h all

pub within_both : (n : ℕ) (xs ys : List Word) → are_within n xs ≡ true → are_within n ys ≡ true → are_within n (xs ++ ys) ≡ true
unfolding are_within
within_both n xs ys h k = list_all-append (is_within n) xs ys ∙ and_from (list_all (is_within n) xs) (list_all (is_within n) ys) h k

pub within_parts : (n : ℕ) (xs ys : List Word) → are_within n (xs ++ ys) ≡ true → (are_within n xs ≡ true) × (are_within n ys ≡ true)
unfolding are_within
within_parts n xs ys h = and_parts (list_all (is_within n) xs) (list_all (is_within n) ys) (sym (list_all-append (is_within n) xs ys) ∙ h)

pub within_take : (n k : ℕ) (ws : List Word) → are_within n ws ≡ true → are_within n (take k ws) ≡ true
within_take n zero ws h = within_nil n
within_take n (suc k) [] h = h
within_take n (suc k) (w ∷ ws) h = let p = within_cons n w ws h in within_front n w (take k ws) p.0 (within_take n k ws p.1)

pub within_drop : (n k : ℕ) (ws : List Word) → are_within n ws ≡ true → are_within n (drop k ws) ≡ true
within_drop n zero ws h = h
within_drop n (suc k) [] h = h
within_drop n (suc k) (w ∷ ws) h = within_drop n k ws (within_cons n w ws h).1

pub within_grown : (n m : ℕ) (ws : List Word) → n ≤ m → are_within n ws ≡ true → are_within m ws ≡ true
within_grown n m [] le h = within_nil m
within_grown n m (w ∷ ws) le h = let p = within_cons n w ws h in within_front m w ws (within_more n m w le p.0) (within_grown n m ws le p.1)

pub within_at : (n : ℕ) (ws : List Word) (i : ℕ) (d : Word) → i < length ws → are_within n ws ≡ true → is_within n (get_or ws i d) ≡ true
within_at n [] i d lt h = absurd (omega arith)
within_at n (w ∷ ws) zero d lt h = (within_cons n w ws h).0
within_at n (w ∷ ws) (suc i) d lt h = within_at n ws i d (omega arith) (within_cons n w ws h).1

-- words within n, below cells that are founded up to n, make founded cells
pub founded_by : (n : ℕ) (ws : List Word) → are_within n ws ≡ true → are_founded n ws ≡ true
unfolding are_founded
founded_by n [] h = refl
founded_by n (w ∷ ws) h =
    let p = within_cons n w ws h in
    and_from (is_within n w) (are_founded (suc n) ws) p.0 (founded_by (suc n) ws (within_grown n (suc n) ws (omega arith) p.1))

pub founded_both : (n m : ℕ) (xs ys : List Word) → m ≡ n + length xs → are_founded n xs ≡ true → are_founded m ys ≡ true → are_founded n (xs ++ ys) ≡ true
unfolding are_founded
founded_both n m [] ys e h k = let same : m ≡ n = omega (arith, e) in ap (λ i. are_founded i ys) (sym same) ∙ k
founded_both n m (x ∷ xs) ys e h k =
    let p = and_parts (is_within n x) (are_founded (suc n) xs) h in
    and_from (is_within n x) (are_founded (suc n) (xs ++ ys)) p.0 (founded_both (suc n) m xs ys (omega (arith, e)) p.1 k)

-- each founded cell is within what stands in the end
pub founded_within : (n m : ℕ) (ws : List Word) → n + length ws ≤ m → are_founded n ws ≡ true → are_within m ws ≡ true
unfolding are_founded
founded_within n m [] le h = within_nil m
founded_within n m (w ∷ ws) le h =
    let p = and_parts (is_within n w) (are_founded (suc n) ws) h in
    within_front m w ws (within_more n m w (omega arith) p.0) (founded_within (suc n) m ws (omega arith) p.1)

-- ---- growth

pub part_grows : (old new : List Value) (from count : ℕ) → take (length old) new ≡ old → from + count ≤ length old → take count (drop from new) ≡ take count (drop from old)
part_grows [] new zero zero e le = refl
part_grows [] new zero (suc count) e le = absurd (omega arith)
part_grows [] new (suc from) count e le = absurd (omega arith)
part_grows (v ∷ old) [] from count e le = absurd cc
part_grows (v ∷ old) (w ∷ new) zero zero e le = refl
part_grows (v ∷ old) (w ∷ new) zero (suc count) e le =
    let here : w ≡ v = cc in
    let rest : take (length old) new ≡ old = cc in
    let others = part_grows old new zero count rest (omega arith) in
    cc
part_grows (v ∷ old) (w ∷ new) (suc from) count e le = let rest : take (length old) new ≡ old = cc in part_grows old new from count rest (omega arith)

pub value_grows : (old new : List Value) (w : Word) → Grows old new → is_within (length old) w ≡ true → value_in new w ≡ value_in old w
value_grows old new (words.Number k) g h = refl
value_grows old new (words.Truth b) g h = refl
value_grows old new (words.Char c) g h = refl
value_grows old new words.Null g h = refl
value_grows old new (words.Reference r) g h = refl
value_grows old new (words.Data tag from count) g h = ap (λ (vs : List Value). Data tag (values_of vs)) (part_grows old new from count g.by (leb-true (from + count) (length old) h))
value_grows old new (words.Sequence from count) g h = ap (λ (vs : List Value). Sequence (values_of vs)) (part_grows old new from count g.by (leb-true (from + count) (length old) h))

pub values_grow : (old new : List Value) (ws : List Word) → Grows old new → are_within (length old) ws ≡ true → map (value_in new) ws ≡ map (value_in old) ws
values_grow old new [] g h = refl
values_grow old new (w ∷ ws) g h =
    let p = within_cons (length old) w ws h in
    let here = value_grows old new w g p.0 in
    let others = values_grow old new ws g p.1 in
    cc

pub grows_none : (vs : List Value) → Grows vs vs
grows_none vs = record { by = take-length vs }

pub grows_more : (vs more : List Value) → Grows vs (vs ++ more)
grows_more vs more = record { by = take-append_seam vs more }

pub grown_length : (old new : List Value) → Grows old new → length old ≤ length new
grown_length old new g = omega (arith, length-take (length old) new, ap length g.by)

-- ---- the values of cells

pub meanings_length : (vs : List Value) (ws : List Word) → length (meanings_from vs ws) ≡ length vs + length ws
unfolding meanings_from
meanings_length vs [] = omega arith
meanings_length vs (w ∷ ws) = let h = meanings_length (vs ++ value_in vs w ∷ []) ws in let k = length-append vs (value_in vs w ∷ []) in omega (arith, h, k)

pub meanings_append : (vs : List Value) (xs ys : List Word) → meanings_from vs (xs ++ ys) ≡ meanings_from (meanings_from vs xs) ys
unfolding meanings_from
meanings_append vs [] ys = refl
meanings_append vs (x ∷ xs) ys = meanings_append (vs ++ value_in vs x ∷ []) xs ys

-- each cell has the value of its word over all the cells
pub meanings_stand : (vs : List Value) (ws : List Word) → are_founded (length vs) ws ≡ true → meanings_from vs ws ≡ vs ++ map (value_in (meanings_from vs ws)) ws
unfolding meanings_from are_founded
meanings_stand vs [] h = sym (append_nil vs)
  where
    append_nil : (xs : List Value) → xs ++ [] ≡ xs
    append_nil [] = refl
    append_nil (x ∷ xs) = ap (λ r. x ∷ r) (append_nil xs)
meanings_stand vs (w ∷ ws) h =
    let p = and_parts (is_within (length vs) w) (are_founded (suc (length vs)) ws) h in
    let v : Value = value_in vs w in
    let long : length (vs ++ v ∷ []) ≡ suc (length vs) = length-append vs (v ∷ []) ∙ omega arith in
    let all : List Value = meanings_from (vs ++ v ∷ []) ws in
    let rest : all ≡ (vs ++ v ∷ []) ++ map (value_in all) ws = meanings_stand (vs ++ v ∷ []) ws (ap (λ n. are_founded n ws) long ∙ p.1) in
    let shape : all ≡ vs ++ v ∷ map (value_in all) ws = rest ∙ append_assoc vs (v ∷ []) (map (value_in all) ws) in
    let grows : Grows vs all = record { by = ap (take (length vs)) shape ∙ take-append_seam vs (v ∷ map (value_in all) ws) } in
    shape ∙ ap (λ (x : Value). vs ++ x ∷ map (value_in all) ws) (sym (value_grows vs all w grows p.0))

pub cells_stand : (cells : List Word) → are_founded 0 cells ≡ true → map (value_in (meanings cells)) cells ≡ meanings cells
unfolding meanings
cells_stand cells h = sym (meanings_stand [] cells h)

pub cells_length : (cells : List Word) → length (meanings cells) ≡ length cells
unfolding meanings
cells_length cells = let h = meanings_length [] cells in omega (arith, h)

-- words that speak of what stands are put behind it
pub meanings_within : (vs : List Value) (ws : List Word) → are_within (length vs) ws ≡ true → meanings_from vs ws ≡ vs ++ map (value_in vs) ws
meanings_within vs ws h =
    let stand = meanings_stand vs ws (founded_by (length vs) ws h) in
    let all : List Value = meanings_from vs ws in
    let grows : Grows vs all = record { by = ap (take (length vs)) stand ∙ take-append_seam vs (map (value_in all) ws) } in
    stand ∙ ap (λ (r : List Value). vs ++ r) (values_grow vs all ws grows h)

pub cells_added : (cells ws : List Word) → are_within (length cells) ws ≡ true → meanings (cells ++ ws) ≡ meanings cells ++ map (value_in (meanings cells)) ws
unfolding meanings
cells_added cells ws h = meanings_append [] cells ws ∙ meanings_within (meanings cells) ws (ap (λ n. are_within n ws) (cells_length cells) ∙ h)

pub cell_within : (cells : List Word) (i : ℕ) (x : Word) → are_founded 0 cells ≡ true → i < length cells → x ≡ get_or cells i x → is_within (length cells) x ≡ true
cell_within cells i x founded lt e = ap (is_within (length cells)) e ∙ within_at (length cells) cells i x lt (founded_within 0 (length cells) cells (omega arith) founded)

-- cells that words were put behind, if there was memory
pub founded_if : (b : Bool) (cells ws new : List Word) → new ≡ cond b (cells ++ ws) cells → are_founded 0 cells ≡ true → are_within (length cells) ws ≡ true → are_founded 0 new ≡ true
founded_if true cells ws new e h k = ap (are_founded 0) e ∙ founded_both 0 (length cells) cells ws (omega arith) h (founded_by (length cells) ws k)
founded_if false cells ws new e h k = ap (are_founded 0) e ∙ h

pub founded_piece : (cells : List Word) (from count : ℕ) → are_founded 0 cells ≡ true → are_within (length cells) (take count (drop from cells)) ≡ true
founded_piece cells from count founded = within_take (length cells) count (drop from cells) (within_drop (length cells) from cells (founded_within 0 (length cells) cells (omega arith) founded))

pub within_one : (n : ℕ) (ws : List Word) (x : Word) → ws ≡ x ∷ [] → are_within n ws ≡ true → is_within n x ≡ true
within_one n ws x e h = (within_cons n x [] (ap (are_within n) (sym e) ∙ h)).0

pub within_two : (n : ℕ) (ws : List Word) (x y : Word) → ws ≡ x ∷ y ∷ [] → are_within n ws ≡ true → (is_within n x ≡ true) × (is_within n y ≡ true)
within_two n ws x y e h =
    let p = within_cons n x (y ∷ []) (ap (are_within n) (sym e) ∙ h) in
    (p.0, (within_cons n y [] p.1).0)

pub within_three : (n : ℕ) (ws : List Word) (x y z : Word) → ws ≡ x ∷ y ∷ z ∷ [] → are_within n ws ≡ true → is_within n x ≡ true
within_three n ws x y z e h = (within_cons n x (y ∷ z ∷ []) (ap (are_within n) (sym e) ∙ h)).0

pub within_third : (n : ℕ) (ws : List Word) (x y z : Word) → ws ≡ x ∷ y ∷ z ∷ [] → are_within n ws ≡ true → is_within n z ≡ true
within_third n ws x y z e h =
    let p = within_cons n x (y ∷ z ∷ []) (ap (are_within n) (sym e) ∙ h) in
    (within_cons n z [] (within_cons n y (z ∷ []) p.1).1).0
