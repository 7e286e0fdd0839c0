-- No chain of measures falls for ever: what is below has a smaller rank, what counts as equal has the same.
use Rattle.std.proofs.Common.{◌≡◌, ◌≤◌, ◌<◌, ℕ, zero, suc, pos, negsuc, int_lt, int_le, Bool, true, false, not, ◌&&◌, ◌||◌, if◌then◌else◌, List, [], ◌∷◌, filter, map, length, refl, sym, ap, subst, ◌∙◌, arith, eqb-true}
use Rattle.std.proofs.lemmas.Bool.{and_parts, and_from, ltb-true}
use mathlib.Core.WellFounded.{Acc}
use Rattle.df_meaning2.specs.Value.{Value, NullReference, Truth, Character, Number, Reference, Made, Sequence, Collection, Memory, list_of, same, is_among, within, weight}
use Rattle.df_meaning2.specs.Meaning.{Measured}
use Rattle.df_meaning2.specs.Order.{is_below, counts_as, are_ranked, falls, stays, are_below}
use Rattle.df_meaning2.proofs.Equality.{same_equal, same_self}

-- ---- lists of ranks

-- the first that differ decide; behind a shorter list stands a top
data Lower : List ℕ → List ℕ → Type 0 where
  longer : (a : ℕ) (more : List ℕ) → Lower (a ∷ more) []
  first : (a b : ℕ) (more others : List ℕ) → a < b → Lower (a ∷ more) (b ∷ others)
  later : (a : ℕ) (more others : List ℕ) → Lower more others → Lower (a ∷ more) (a ∷ others)

record Falls (longest : ℕ) (now before : List ℕ) : Type 0 where
  short : length now ≤ longest
  lower : Lower now before

module _ (longest : ℕ) (ends : (others : List ℕ) → length others ≤ longest → Acc (Falls longest) others) where
  rest_ends : (a : ℕ) → ((b : ℕ) → b < a → (others : List ℕ) → length others ≤ longest → Acc (Falls (suc longest)) (b ∷ others)) → (more : List ℕ) → Acc (Falls longest) more → Acc (Falls (suc longest)) (a ∷ more)
  rest_ends a smaller more (Acc.intro here falls) = Acc.intro (a ∷ more) (λ now h. below now h.short h.lower (λ others f. rest_ends a smaller others (falls others f)))
    where
      below : (now : List ℕ) → length now ≤ suc longest → Lower now (a ∷ more) → ((others : List ℕ) → Falls longest others more → Acc (Falls (suc longest)) (a ∷ others)) → Acc (Falls (suc longest)) now
      below [] short x equal = elim x [ ]
      below (b ∷ others) short (first _ _ _ _ less) equal = smaller b less others (let s : suc (length others) ≤ suc longest = short in omega (arith, s))
      below (b ∷ others) short (later _ _ _ lower) equal = equal others (record { short = let s : suc (length others) ≤ suc longest = short in omega (arith, s); lower = lower })

  first_ends : (bound a : ℕ) → a < bound → (others : List ℕ) → length others ≤ longest → Acc (Falls (suc longest)) (a ∷ others)
  first_ends zero a lt others short = absurd (omega (arith, lt))
  first_ends (suc bound) a lt others short = rest_ends a (λ b less. first_ends bound b (omega (arith, lt, less))) others (ends others short)

  top_ends : (now : List ℕ) → length now ≤ suc longest → Lower now [] → Acc (Falls (suc longest)) now
  top_ends [] short x = elim x [ ]
  top_ends (b ∷ others) short (longer _ _) = first_ends (suc b) b (omega arith) others (let s : suc (length others) ≤ suc longest = short in omega (arith, s))

nothing_shorter : (now : List ℕ) → length now ≤ 0 → Lower now [] → Acc (Falls 0) now
nothing_shorter [] short x = elim x [ ]
nothing_shorter (b ∷ others) short (longer _ _) = absurd (let s : suc (length others) ≤ 0 = short in omega (arith, s))

ranks_end : (longest : ℕ) (all : List ℕ) → length all ≤ longest → Acc (Falls longest) all
ranks_end zero [] short = Acc.intro [] (λ now h. nothing_shorter now h.short h.lower)
ranks_end zero (a ∷ more) short = absurd (let s : suc (length more) ≤ zero = short in omega (arith, s))
ranks_end (suc longest) [] short = Acc.intro [] (λ now h. top_ends longest (ranks_end longest) now h.short h.lower)
ranks_end (suc longest) (a ∷ more) short = first_ends longest (ranks_end longest) (suc a) a (omega arith) more (let s : suc (length more) ≤ suc longest = short in omega (arith, s))

-- ---- how many members there are, each once

abbrev distinct : List Value → ℕ
distinct [] = 0
distinct (v ∷ vs) = if is_among v vs then distinct vs else suc (distinct vs)

abbrev without : Value → List Value → List Value
without v ws = filter (λ w. not (same v w)) ws

turned : (v w : Value) → same v w ≡ same w v
turned v w = by_test (same v w) (same w v) refl refl
  where
    by_test : (a b : Bool) → same v w ≡ a → same w v ≡ b → same v w ≡ same w v
    by_test true b e f = ap (λ x. same x w) (same_equal v w e) ∙ ap (λ x. same w x) (sym (same_equal v w e))
    by_test false true e f = ap (λ x. same v x) (same_equal w v f) ∙ ap (λ x. same x v) (sym (same_equal w v f))
    by_test false false e f = e ∙ sym f

-- a member that is not the one stays
stays_without : (v u : Value) (ws : List Value) → same u v ≡ false → is_among u (without v ws) ≡ is_among u ws
stays_without v u [] h = refl
stays_without v u (w ∷ ws) h = by_test (same v w) refl (stays_without v u ws h)
  where
    by_test : (b : Bool) → same v w ≡ b → is_among u (without v ws) ≡ is_among u ws → is_among u (if not b then w ∷ without v ws else without v ws) ≡ (same u w || is_among u ws)
    by_test false e rest = ap (λ b. same u w || b) rest
    by_test true e rest = rest ∙ ap (λ b. b || is_among u ws) (sym (ap (λ x. same u x) (sym (same_equal v w e)) ∙ h))

none_without : (v : Value) (ws : List Value) → is_among v ws ≡ false → without v ws ≡ ws
none_without v [] h = refl
none_without v (w ∷ ws) h = by_test (same v w) h (none_without v ws)
  where
    by_test : (b : Bool) → (b || is_among v ws) ≡ false → (is_among v ws ≡ false → without v ws ≡ ws) → (if not b then w ∷ without v ws else without v ws) ≡ w ∷ ws
    by_test true h rest = cc
    by_test false h rest = ap (λ xs. w ∷ xs) (rest h)

abbrev counted : Bool → ℕ → ℕ
counted b n = if b then n else suc n

one_less : (v : Value) (ws : List Value) → is_among v ws ≡ true → distinct ws ≡ suc (distinct (without v ws))
one_less v [] h = cc
one_less v (w ∷ ws) h = by_test (same v w) refl h (is_among v ws) refl (one_less v ws)
  where
    by_test : (b : Bool) → same v w ≡ b → (b || is_among v ws) ≡ true → (c : Bool) → is_among v ws ≡ c → (is_among v ws ≡ true → distinct ws ≡ suc (distinct (without v ws)))
        → counted (is_among w ws) (distinct ws) ≡ suc (distinct (if not b then w ∷ without v ws else without v ws))
    by_test true e h true f rest = ap (λ x. counted (is_among x ws) (distinct ws)) (sym (same_equal v w e)) ∙ ap (λ b. counted b (distinct ws)) f ∙ rest f
    by_test true e h false f rest = ap (λ x. counted (is_among x ws) (distinct ws)) (sym (same_equal v w e)) ∙ ap (λ b. counted b (distinct ws)) f ∙ ap (λ xs. suc (distinct xs)) (sym (none_without v ws f))
    by_test false e h true f rest =
        let kept : is_among w (without v ws) ≡ is_among w ws = stays_without v w ws (turned w v ∙ e) in
        let moved : (a : Bool) (n m : ℕ) → n ≡ suc m → counted a n ≡ suc (counted a m) = λ a n m k. shift a n m k in
        moved (is_among w ws) (distinct ws) (distinct (without v ws)) (rest f) ∙ ap (λ b. suc (counted b (distinct (without v ws)))) (sym kept)
      where
        shift : (a : Bool) (n m : ℕ) → n ≡ suc m → counted a n ≡ suc (counted a m)
        shift true n m k = k
        shift false n m k = ap suc k
    by_test false e h false f rest = absurd (let k : false ≡ true = sym f ∙ h in cc)

-- each member of the one is a member of the other, which has one more
fewer : (vs ws : List Value) (w : Value) → within vs ws ≡ true → is_among w ws ≡ true → is_among w vs ≡ false → distinct vs < distinct ws
fewer [] ws w sub has lacks = let one : distinct ws ≡ suc (distinct (without w ws)) = one_less w ws has in omega arith
fewer (v ∷ vs) ws w sub has lacks = by_test (is_among v vs) refl (λ others u. fewer vs others u)
  where
    parts : (is_among v ws ≡ true) × (within vs ws ≡ true)
    parts = and_parts (is_among v ws) (within vs ws) sub

    other : (a b : Bool) → (a || b) ≡ false → (a ≡ false) × (b ≡ false)
    other true b h = cc
    other false b h = (refl, h)

    rest_within : (us : List Value) → within us ws ≡ true → is_among v us ≡ false → within us (without v ws) ≡ true
    rest_within [] h k = refl
    rest_within (u ∷ us) h k =
        let hs = and_parts (is_among u ws) (within us ws) h in
        let ks = other (same v u) (is_among v us) k in
        and_from (is_among u (without v ws)) (within us (without v ws)) (stays_without v u ws (turned u v ∙ ks.0) ∙ hs.0) (rest_within us hs.1 ks.1)

    by_test : (b : Bool) → is_among v vs ≡ b → ((others : List Value) (u : Value) → within vs others ≡ true → is_among u others ≡ true → is_among u vs ≡ false → distinct vs < distinct others) → (if b then distinct vs else suc (distinct vs)) < distinct ws
    by_test true e less = less ws w parts.1 has (other (same w v) (is_among w vs) lacks).1
    by_test false e less =
        let apart = other (same w v) (is_among w vs) lacks in
        let one : distinct ws ≡ suc (distinct (without v ws)) = one_less v ws parts.0 in
        let rest : distinct vs < distinct (without v ws) = less (without v ws) w (rest_within vs parts.1 e) (stays_without v w ws apart.0 ∙ has) apart.1 in
        omega arith

-- one that is missing
missing : (ws vs : List Value) → within ws vs ≡ false → (w : Value) × ((is_among w ws ≡ true) × (is_among w vs ≡ false))
missing [] vs h = cc
missing (w ∷ ws) vs h = by_test (is_among w vs) refl h (missing ws vs)
  where
    by_test : (b : Bool) → is_among w vs ≡ b → (b && within ws vs) ≡ false → (within ws vs ≡ false → (u : Value) × ((is_among u ws ≡ true) × (is_among u vs ≡ false))) → (u : Value) × ((is_among u (w ∷ ws) ≡ true) × (is_among u vs ≡ false))
    by_test true e h rest = let m = rest h in (m.0, (wider (same m.0 w) (is_among m.0 ws) m.1.0, m.1.1))
      where
        wider : (a b : Bool) → b ≡ true → (a || b) ≡ true
        wider true b e = refl
        wider false b e = e
    by_test false e h rest = (w, (ap (λ b. b || is_among w ws) (same_self w), e))

-- ---- the rank of a value

abbrev rank : Value → ℕ
rank NullReference = 0
rank (Truth false) = 0
rank (Truth true) = 1
rank (Character c) = c
rank (Number (pos n)) = suc n
rank (Number (negsuc n)) = 0
rank (Reference r) = 1
rank (Made c vs) = weight (Made c vs)
rank (Sequence vs) = weight (Sequence vs)
rank (Collection vs) = distinct (list_of vs)
rank (Memory objects) = 0

is_false : (b : Bool) → not b ≡ true → b ≡ false
is_false true h = cc
is_false false h = refl

below_rank : (v w : Value) → is_below v w ≡ true → rank v < rank w
below_rank NullReference (Reference r) e = omega arith
below_rank (Truth false) (Truth true) e = omega arith
below_rank (Truth false) (Truth false) e = cc
below_rank (Truth true) (Truth b) e = cc
below_rank (Character a) (Character b) e = ltb-true a b e
below_rank (Number (pos m)) (Number (pos n)) e = let less : m < n = ltb-true m n (and_parts (int_lt (pos m) (pos n)) (int_le (pos 0) (pos n)) e).0 in omega (arith, less)
below_rank (Number (negsuc m)) (Number (pos n)) e = omega arith
below_rank (Number m) (Number (negsuc n)) e = absurd (let f = (and_parts (int_lt m (negsuc n)) (int_le (pos 0) (negsuc n)) e).1 in cc)
below_rank (Made c vs) (Made d ws) e = ltb-true (weight (Made c vs)) (weight (Made d ws)) e
below_rank (Made c vs) (Sequence ws) e = ltb-true (weight (Made c vs)) (weight (Sequence ws)) e
below_rank (Sequence vs) (Made d ws) e = ltb-true (weight (Sequence vs)) (weight (Made d ws)) e
below_rank (Sequence vs) (Sequence ws) e = ltb-true (weight (Sequence vs)) (weight (Sequence ws)) e
below_rank (Collection vs) (Collection ws) e =
    let parts = and_parts (within (list_of vs) (list_of ws)) (not (within (list_of ws) (list_of vs))) e in
    let m = missing (list_of ws) (list_of vs) (is_false (within (list_of ws) (list_of vs)) parts.1) in
    fewer (list_of vs) (list_of ws) m.0 parts.0 m.1.0 m.1.1
below_rank v w e = cc

counts_rank : (v w : Value) → counts_as v w ≡ true → rank v ≡ rank w
counts_rank (Made c vs) (Made d ws) e = eqb-true (weight (Made c vs)) (weight (Made d ws)) e
counts_rank (Made c vs) (Sequence ws) e = eqb-true (weight (Made c vs)) (weight (Sequence ws)) e
counts_rank (Sequence vs) (Made d ws) e = eqb-true (weight (Sequence vs)) (weight (Made d ws)) e
counts_rank (Sequence vs) (Sequence ws) e = eqb-true (weight (Sequence vs)) (weight (Sequence ws)) e
counts_rank v w e = ap rank (same_equal v w e)

-- ---- measures

abbrev ranks : List Measured → List ℕ
ranks all = map (λ (a : Measured). rank a.value) all

falls_rank : (a b : Measured) → falls a b ≡ true → rank a.value < rank b.value
falls_rank a b e = below_rank a.value b.value (and_parts (are_ranked a b) (is_below a.value b.value) e).1

stays_rank : (a b : Measured) → stays a b ≡ true → rank a.value ≡ rank b.value
stays_rank a b e = by_test (are_ranked a b) e
  where
    by_test : (c : Bool) → (if c then counts_as a.value b.value else same a.value b.value) ≡ true → rank a.value ≡ rank b.value
    by_test true e = counts_rank a.value b.value e
    by_test false e = ap rank (same_equal a.value b.value e)

lower_of : (now before : List Measured) → are_below now before ≡ true → Lower (ranks now) (ranks before)
lower_of [] before e = cc
lower_of (a ∷ more) [] e = longer (rank a.value) (ranks more)
lower_of (a ∷ more) (b ∷ others) e = by_first (falls a b) refl e (lower_of more others)
  where
    by_first : (t : Bool) → falls a b ≡ t → (t || (stays a b && are_below more others)) ≡ true → (are_below more others ≡ true → Lower (ranks more) (ranks others)) → Lower (rank a.value ∷ ranks more) (rank b.value ∷ ranks others)
    by_first true is f rest = first (rank a.value) (rank b.value) (ranks more) (ranks others) (falls_rank a b is)
    by_first false is f rest =
        let parts = and_parts (stays a b) (are_below more others) f in
        subst (λ r. Lower (rank a.value ∷ ranks more) (r ∷ ranks others)) (stays_rank a b parts.0) (later (rank a.value) (ranks more) (ranks others) (rest parts.1))

same_length : (all : List Measured) → length (ranks all) ≡ length all
same_length [] = refl
same_length (a ∷ all) = ap suc (same_length all)

pub record FallsBelow (longest : ℕ) (now before : List Measured) : Type 0 where
  pub short : length now ≤ longest
  pub below : are_below now before ≡ true

ends_by : (longest : ℕ) (ns : List ℕ) → Acc (Falls longest) ns → (all : List Measured) → ranks all ≡ ns → Acc (FallsBelow longest) all
ends_by longest ns (Acc.intro here falls) all e = Acc.intro all (λ now h. ends_by longest (ranks now)
    (falls (ranks now) (record { short = subst (λ k. k ≤ longest) (sym (same_length now)) h.short; lower = subst (Lower (ranks now)) e (lower_of now all h.below) })) now refl)

pub measures_end : (longest : ℕ) (all : List Measured) → length all ≤ longest → Acc (FallsBelow longest) all
measures_end longest all short = ends_by longest (ranks all) (ranks_end longest (ranks all) (subst (λ k. k ≤ longest) (sym (same_length all)) short)) all refl
