-- Pairs that end each below the one before it need no more room than there are cells, and comparing leaves less work.
use Rattle.std.proofs.Common.{◌≡◌, ℕ, zero, suc, ◌+◌, ◌-◌, ◌<◌, ◌≤◌, Bool, true, false, ◌&&◌, ◌||◌, cond, nat_eq, nat_lt, nat_le, List, [], ◌∷◌, ◌++◌, take, drop, length, Some, slice_get, get_or, refl, sym, ap, subst, ◌∙◌, arith, length-append}
use Rattle.std.proofs.lemmas.Bool.{and_from, and_parts, leb-true, ltb-true, lt-ltb, le-leb, eqb-true}
use Rattle.df_vm_store.specs.declared.word.Word.{Word}
use Rattle.df_vm_store.specs.declared.word.Word.TheVariants as words
use Rattle.df_vm_store.specs.declared.equal.Pair.{Pair}
use Rattle.df_mach2.specs.Value.{Value, Number, Truth, Char, Null, Reference, Data, Sequence, values_of}
use Rattle.df_vm_store.specs.Meaning.{value_in, meanings, are_founded, is_within}
use Rattle.df_vm_store.specs.Equal.{fall, floor_of, deferred, falls_with, end_of, weight, weights, pair_work, work, next_pair}
use Rattle.df_vm_store.proofs.Meanings.{within_more}
use Rattle.df_vm_store.proofs.Same.{piece_front, cell_means}

-- ---- one more pair

-- what is asked of one more pair
pub record Ends (size floor : ℕ) (p : Pair) : Type 0 where
  pub some : 0 < p.count
  pub left : p.left + p.count ≤ floor
  pub right : p.right + p.count ≤ size

parted : (size below : ℕ) (p : Pair) (ps : List Pair) → fall size below (p ∷ ps) ≡ true → Ends size below p × (fall size (p.left + p.count - 1) ps ≡ true)
unfolding fall
parted size below p ps h =
    let a = and_parts (nat_lt 0 p.count) (nat_le (p.left + p.count) below && (nat_le (p.right + p.count) size && fall size (p.left + p.count - 1) ps)) h in
    let b = and_parts (nat_le (p.left + p.count) below) (nat_le (p.right + p.count) size && fall size (p.left + p.count - 1) ps) a.1 in
    let c = and_parts (nat_le (p.right + p.count) size) (fall size (p.left + p.count - 1) ps) b.1 in
    (record { some = ltb-true 0 p.count a.0; left = leb-true (p.left + p.count) below b.0; right = leb-true (p.right + p.count) size c.0 }, c.1)

joined : (size below : ℕ) (p : Pair) (ps : List Pair) → Ends size below p → fall size (p.left + p.count - 1) ps ≡ true → fall size below (p ∷ ps) ≡ true
unfolding fall
joined size below p ps ends h =
    and_from (nat_lt 0 p.count) _ (lt-ltb 0 p.count ends.some) (and_from (nat_le (p.left + p.count) below) _ (le-leb (p.left + p.count) below ends.left)
    (and_from (nat_le (p.right + p.count) size) (fall size (p.left + p.count - 1) ps) (le-leb (p.right + p.count) size ends.right) h))

fall_none : (size below : ℕ) → fall size below [] ≡ true
unfolding fall
fall_none size below = refl

pub floor_more : (below : ℕ) (ps : List Pair) (p : Pair) → floor_of below (ps ++ p ∷ []) ≡ p.left + p.count - 1
unfolding floor_of
floor_more below [] p = refl
floor_more below (q ∷ ps) p = floor_more (q.left + q.count - 1) ps p

floor_none : (below : ℕ) → floor_of below [] ≡ below
unfolding floor_of
floor_none below = refl

floor_cons : (below : ℕ) (p : Pair) (ps : List Pair) → floor_of below (p ∷ ps) ≡ floor_of (p.left + p.count - 1) ps
unfolding floor_of
floor_cons below p ps = refl

-- the last of the pairs, and those before it
pub last_falls : (size below : ℕ) (ps : List Pair) (p : Pair) → fall size below (ps ++ p ∷ []) ≡ true → (fall size below ps ≡ true) × Ends size (floor_of below ps) p
last_falls size below [] p h = (fall_none size below, subst (λ n. Ends size n p) (sym (floor_none below)) (parted size below p [] h).0)
last_falls size below (q ∷ ps) p h =
    let a = parted size below q (ps ++ p ∷ []) h in
    let b = last_falls size (q.left + q.count - 1) ps p a.1 in
    (joined size below q ps a.0 b.0, subst (λ n. Ends size n p) (sym (floor_cons below q ps)) b.1)

pub one_more_falls : (size below : ℕ) (ps : List Pair) (p : Pair) → fall size below ps ≡ true → Ends size (floor_of below ps) p → fall size below (ps ++ p ∷ []) ≡ true
one_more_falls size below [] p h ends = joined size below p [] (subst (λ n. Ends size n p) (floor_none below) ends) (fall_none size (p.left + p.count - 1))
one_more_falls size below (q ∷ ps) p h ends =
    let a = parted size below q ps h in
    joined size below q (ps ++ p ∷ []) a.0 (one_more_falls size (q.left + q.count - 1) ps p a.1 (subst (λ n. Ends size n p) (floor_cons below q ps) ends))

pub floor_le : (size below : ℕ) (ps : List Pair) → fall size below ps ≡ true → floor_of below ps + length ps ≤ below
floor_le size below [] h = omega (arith, floor_none below)
floor_le size below (p ∷ ps) h =
    let a = parted size below p ps h in
    let rest = floor_le size (p.left + p.count - 1) ps a.1 in
    omega (arith, rest, floor_cons below p ps, a.0.some, a.0.left)

-- one more has room
pub has_room : (size room : ℕ) (ps : List Pair) (p : Pair) → (nat_eq p.count 0 || fall size size (ps ++ p ∷ [])) ≡ true → (p.count ≡ 0 → ⊥) → size ≤ room → length ps < room
has_room size room ps p h some le =
    let falls = second (nat_eq p.count 0) _ (λ e. some (eqb-true p.count 0 e)) h in
    let a = floor_le size size (ps ++ p ∷ []) falls in
    omega (arith, a, length-append ps (p ∷ []))
  where
    second : (a b : Bool) → (a ≡ true → ⊥) → (a || b) ≡ true → b ≡ true
    second true b other e = absurd (other refl)
    second false b other e = e

-- ---- what is put

-- a pair that ends below all others, if there is anything in it
abbrev pub Fits : ℕ → List Pair → Pair → Type 0
Fits size ps p = (p.left + p.count ≤ floor_of size ps) × (p.right + p.count ≤ size)

pub fits_with : (size : ℕ) (ps : List Pair) (p : Pair) → fall size size ps ≡ true → Fits size ps p → falls_with size ps p ≡ true
fits_with size ps p h fits = by_count (nat_eq p.count 0) refl
  where
    by_count : (b : Bool) → nat_eq p.count 0 ≡ b → (b || fall size size (ps ++ p ∷ [])) ≡ true
    by_count true e = refl
    by_count false e = one_more_falls size size ps p h (record { some = some p.count e; left = fits.0; right = fits.1 })
      where
        some : (n : ℕ) → nat_eq n 0 ≡ false → 0 < n
        some zero k = absurd cc
        some (suc n) k = omega arith

pub deferred_falls : (size : ℕ) (ps : List Pair) (p : Pair) → fall size size ps ≡ true → falls_with size ps p ≡ true → fall size size (deferred ps p) ≡ true
deferred_falls size ps p h k = by_count (nat_eq p.count 0) k
  where
    by_count : (b : Bool) → (b || fall size size (ps ++ p ∷ [])) ≡ true → fall size size (cond b ps (ps ++ p ∷ [])) ≡ true
    by_count true e = h
    by_count false e = e

-- what is left of the last pair fits
pub rest_fits : (size : ℕ) (ps : List Pair) (p : Pair) → Ends size (floor_of size ps) p → Fits size ps (next_pair p)
rest_fits size ps p ends = (omega (arith, ends.some, ends.left), omega (arith, ends.some, ends.right))

-- what ends no higher than the place of the last pair's first cell fits behind what is left of that pair
pub inner_fits : (size : ℕ) (ps : List Pair) (p q : Pair) → Ends size (floor_of size ps) p → q.left + q.count ≤ p.left → q.right + q.count ≤ size → Fits size (deferred ps (next_pair p)) q
inner_fits size ps p q ends left right = (by_count (nat_eq (p.count - 1) 0) refl, right)
  where
    by_count : (b : Bool) → nat_eq (p.count - 1) 0 ≡ b → q.left + q.count ≤ floor_of size (cond b ps (ps ++ next_pair p ∷ []))
    by_count true e = omega (arith, ends.some, ends.left, left)
    by_count false e = omega (arith, floor_more size ps (next_pair p), ends.some, left)

-- ---- cells

-- a cell speaks of those before it
founded_or : (n : ℕ) (ws : List Word) (i : ℕ) (d : Word) → i < length ws → are_founded n ws ≡ true → is_within (n + i) (get_or ws i d) ≡ true
unfolding are_founded
founded_or n [] i d lt h = absurd (omega arith)
founded_or n (x ∷ ws) zero d lt h =
    let at : n ≡ n + 0 = omega arith in
    subst (λ m. is_within m x ≡ true) at (and_parts (is_within n x) (are_founded (suc n) ws) h).0
founded_or n (x ∷ ws) (suc i) d lt h =
    let at : suc n + i ≡ n + suc i = omega arith in
    subst (λ m. is_within m (get_or ws i d) ≡ true) at (founded_or (suc n) ws i d (omega arith) (and_parts (is_within n x) (are_founded (suc n) ws) h).1)

pub founded_got : (ws : List Word) (i : ℕ) (d : Word) → are_founded 0 ws ≡ true → i < length ws → is_within i (get_or ws i d) ≡ true
founded_got ws i d h lt =
    let at : 0 + i ≡ i = omega arith in
    subst (λ m. is_within m (get_or ws i d) ≡ true) at (founded_or 0 ws i d lt h)

pub within_end : (n : ℕ) (w : Word) → is_within n w ≡ true → end_of w ≤ n
within_end n (words.Number k) h = omega arith
within_end n (words.Truth b) h = omega arith
within_end n (words.Char c) h = omega arith
within_end n words.Null h = omega arith
within_end n (words.Reference r) h = omega arith
within_end n (words.Data tag from count) h = leb-true (from + count) n h
within_end n (words.Sequence from count) h = leb-true (from + count) n h

-- ---- work

work_none : (vs : List Value) → work vs [] ≡ 0
unfolding work
work_none vs = refl

pub work_more : (vs : List Value) (ps : List Pair) (p : Pair) → work vs (ps ++ p ∷ []) ≡ work vs ps + pair_work vs p
unfolding work
work_more vs [] p = omega arith
work_more vs (q ∷ ps) p = let h = work_more vs ps p in omega (arith, h)

pub work_deferred : (vs : List Value) (ps : List Pair) (p : Pair) → work vs (deferred ps p) ≤ work vs ps + pair_work vs p
work_deferred vs ps p = by_count (nat_eq p.count 0)
  where
    by_count : (b : Bool) → work vs (cond b ps (ps ++ p ∷ [])) ≤ work vs ps + pair_work vs p
    by_count true = omega arith
    by_count false = omega (arith, work_more vs ps p)

pub weight_some : (v : Value) → 0 < weight v
weight_some (Number n) = omega arith
weight_some (Truth b) = omega arith
weight_some (Char c) = omega arith
weight_some Null = omega arith
weight_some (Reference r) = omega arith
weight_some (Data tag parts) = omega arith
weight_some (Sequence members) = omega arith

-- the first, and the others
pub work_front : (cells : List Word) (p : Pair) (w : Word) → are_founded 0 cells ≡ true → slice_get cells p.left ≡ Some w → 0 < p.count
    → pair_work (meanings cells) p ≡ weight (value_in (meanings cells) w) + pair_work (meanings cells) (next_pair p)
work_front cells p w founded is lt =
    let vs : List Value = meanings cells in
    let count : p.count ≡ suc (p.count - 1) = omega arith in
    let at : suc p.left ≡ p.left + 1 = omega arith in
    ap (λ n. weights (values_of (take n (drop p.left vs)))) count
    ∙ ap (λ us. weights (values_of us)) (piece_front vs p.left (p.count - 1) (value_in vs w) (cell_means cells p.left w founded is))
    ∙ ap (λ n. weight (value_in vs w) + weights (values_of (take (p.count - 1) (drop n vs)))) at

pub work_some : (vs : List Value) (old : List Pair) (p : Pair) (v : Value) → pair_work vs p ≡ weight v + pair_work vs (next_pair p) → work vs old < work vs old + pair_work vs p
work_some vs old p v e = omega (arith, e, weight_some v)

-- less is left where the first are the same
pub less_equal : (vs : List Value) (old new : List Pair) (p q : Pair) (v : Value) → q ≡ next_pair p → new ≡ deferred old q → pair_work vs p ≡ weight v + pair_work vs (next_pair p) → work vs new < work vs old + pair_work vs p
less_equal vs old new p q v is put e =
    let rest : pair_work vs q ≡ pair_work vs (next_pair p) = ap (pair_work vs) is in
    let now : work vs new ≡ work vs (deferred old q) = ap (work vs) put in
    omega (arith, e, rest, now, weight_some v, work_deferred vs old q)

-- and where something deeper decides
pub less_deeper : (vs : List Value) (old mid new : List Pair) (p q inner : Pair) (v : Value) → q ≡ next_pair p → mid ≡ deferred old q → new ≡ deferred mid inner → pair_work vs p ≡ weight v + pair_work vs (next_pair p) → pair_work vs inner < weight v
    → work vs new < work vs old + pair_work vs p
less_deeper vs old mid new p q inner v is put last e lt =
    let rest : pair_work vs q ≡ pair_work vs (next_pair p) = ap (pair_work vs) is in
    let then : work vs mid ≡ work vs (deferred old q) = ap (work vs) put in
    let now : work vs new ≡ work vs (deferred mid inner) = ap (work vs) last in
    omega (arith, e, lt, rest, then, now, work_deferred vs old q, work_deferred vs mid inner)

-- ---- the last pair

-- where the last of the pairs stands
pub record Stands (size : ℕ) (ps : List Pair) (p : Pair) : Type 0 where
  pub before : fall size size ps ≡ true
  pub ends : Ends size (floor_of size ps) p
  pub left : p.left + p.count ≤ size

pub stands_last : (size : ℕ) (ps : List Pair) (p : Pair) → fall size size (ps ++ p ∷ []) ≡ true → Stands size ps p
stands_last size ps p h =
    let a = last_falls size size ps p h in
    record { before = a.0; ends = a.1; left = omega (arith, a.1.left, floor_le size size ps a.0) }

pub within_size : (size place : ℕ) (w : Word) → place < size → is_within place w ≡ true → is_within size w ≡ true
within_size size place w lt h = within_more place size w (omega arith) h

-- the rest of the last pair was put
pub rest_falls : (size : ℕ) (ps : List Pair) (p q : Pair) → Stands size ps p → q ≡ next_pair p → falls_with size ps q ≡ true
rest_falls size ps p q s e = subst (λ r. falls_with size ps r ≡ true) (sym e) (fits_with size ps (next_pair p) s.before (rest_fits size ps p s.ends))

pub with_rest : (size : ℕ) (ps new : List Pair) (p q : Pair) → Stands size ps p → q ≡ next_pair p → new ≡ deferred ps q → fall size size new ≡ true
with_rest size ps new p q s e is = subst (λ us. fall size size us ≡ true) (sym is) (deferred_falls size ps q s.before (rest_falls size ps p q s e))

-- and what is deeper behind it
pub inner_falls : (size : ℕ) (ps mid : List Pair) (p q inner : Pair) → Stands size ps p → q ≡ next_pair p → mid ≡ deferred ps q → inner.left + inner.count ≤ p.left → inner.right + inner.count ≤ size → falls_with size mid inner ≡ true
inner_falls size ps mid p q inner s e is left right =
    let at : mid ≡ deferred ps (next_pair p) = is ∙ ap (deferred ps) e in
    fits_with size mid inner (with_rest size ps mid p q s e is) (subst (λ us. Fits size us inner) (sym at) (inner_fits size ps p inner s.ends left right))

pub with_inner : (size : ℕ) (ps mid new : List Pair) (p q inner : Pair) → Stands size ps p → q ≡ next_pair p → mid ≡ deferred ps q → inner.left + inner.count ≤ p.left → inner.right + inner.count ≤ size → new ≡ deferred mid inner
    → fall size size new ≡ true
with_inner size ps mid new p q inner s e is left right last =
    subst (λ us. fall size size us ≡ true) (sym last) (deferred_falls size mid inner (with_rest size ps mid p q s e is) (inner_falls size ps mid p q inner s e is left right))

-- the first of all
pub first_falls : (size : ℕ) (old : List Pair) (p : Pair) → old ≡ [] → p.left + p.count ≤ size → p.right + p.count ≤ size → falls_with size old p ≡ true
first_falls size old p e left right =
    subst (λ us. falls_with size us p ≡ true) (sym e) (fits_with size [] p (fall_none size size) (subst (λ n. p.left + p.count ≤ n) (sym (floor_none size)) left, right))

pub with_first : (size : ℕ) (old new : List Pair) (p : Pair) → old ≡ [] → new ≡ deferred old p → p.left + p.count ≤ size → p.right + p.count ≤ size → fall size size new ≡ true
with_first size old new p e is left right =
    let begun : deferred old p ≡ deferred [] p = ap (λ us. deferred us p) e in
    subst (λ us. fall size size us ≡ true) (sym (is ∙ begun)) (deferred_falls size [] p (fall_none size size) (first_falls size [] p refl left right))
